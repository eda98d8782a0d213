-- The turns so far, and what they come to when they go on.
use Rattle.std.proofs.Common.{◌≡◌, ℕ, ◌+◌, ◌<◌, ◌≤◌, inl, inr, List, [], ◌∷◌, ◌++◌, length, take, get_or, refl, sym, ap, ◌∙◌, subst, append_assoc}
use Rattle.std.proofs.lemmas.List.{append-nil, take_more, take_all}
use Rattle.hwp_script_words.specs.declared.Go.{Go}
use Rattle.hwp_core_rule.specs.Boards.{Played}
use Rattle.hwp_core_rule.specs.Turns.{Member}
use Rattle.hwp_plain.specs.Order.{Running, IsOver, AreOver, TurnOf, EndsWord, told_of, Word, Schedule, levels, IsChosen, Finishing, InOrder, logged, Grows}

logged-append : (ps qs log : List Played) → logged (ps ++ qs) log ≡ logged qs (logged ps log)
logged-append [] qs log = refl
logged-append (p ∷ ps) qs log = logged-append ps qs (p ∷ log)

-- one turn more
more : (done was now after : List Played) (p : Played) → now ≡ logged done was → after ≡ p ∷ now → after ≡ logged (done ++ p ∷ []) was
more done was now after p grown one = one ∙ ap (λ (l : List Played). p ∷ l) grown ∙ sym (logged-append done (p ∷ []) was)

-- and many
many : (done later was now after : List Played) → now ≡ logged done was → after ≡ logged later now → after ≡ logged (done ++ later) was
many done later was now after grown then = then ∙ ap (logged later) grown ∙ sym (logged-append done later was)

-- where turns go on from b, they go on from a, with those since
pub record SoFar {S : Type 0} (P : Running S → List Played → Running S → Type 0) (a : Running S) (was : List Played) (b : Running S) (now : List Played) : Type 0 where
  pub done : List Played
  pub now_is : now ≡ logged done was
  pub leads : (rest : List Played) (end : Running S) → P b rest end → P a (done ++ rest) end

pub sofar-start : {S : Type 0} (P : Running S → List Played → Running S → Type 0) (a : Running S) (log : List Played) → SoFar P a log a log
sofar-start P a log = record { done = []; now_is = refl; leads = λ rest end p. p }

module _ {S : Type 0} (P : Running S → List Played → Running S → Type 0) (a : Running S) (was : List Played) (b : Running S) (now : List Played) (s : SoFar P a was b now) where
  sofar-more : (c : Running S) (after : List Played) (p : Played) → after ≡ p ∷ now → ((rest : List Played) (end : Running S) → P c rest end → P b (p ∷ rest) end) → SoFar P a was c after
  sofar-more c after p one on = record {
    done = s.done ++ p ∷ [];
    now_is = more s.done was now after p s.now_is one;
    leads = λ rest end q. subst (λ (x : List Played). P a x end) (sym (append_assoc s.done (p ∷ []) rest)) (s.leads (p ∷ rest) end (on rest end q));
  }

  sofar-end : (end : Running S) → P b [] end → Grows was now (λ ps. P a ps end)
  sofar-end end q = record { turns = s.done; now_is = s.now_is; are = subst (λ (x : List Played). P a x end) (append-nil s.done) (s.leads [] end q) }

  sofar-last : (end : Running S) (after : List Played) (p : Played) → after ≡ p ∷ now → P b (p ∷ []) end → Grows was after (λ ps. P a ps end)
  sofar-last end after p one q = record { turns = s.done ++ p ∷ []; now_is = more s.done was now after p s.now_is one; are = s.leads (p ∷ []) end q }

module _ {S : Type 0} (m : Member S) (a : Running S) (was : List Played) (b : Running S) (now : List Played) where
  pub finish-more : (c : Running S) (after : List Played) (cpu : ℕ) (p : Played) → SoFar (Finishing m) a was b now → IsChosen (levels m b.tasks) cpu → TurnOf m b cpu p c → after ≡ p ∷ now → SoFar (Finishing m) a was c after
  finish-more c after cpu p s chosen turn one = sofar-more (Finishing m) a was b now s c after p one (λ rest end q. (cpu, chosen, (c, turn, q)))

  -- nothing changed
  pub finish-same : (c : Running S) (after : List Played) → SoFar (Finishing m) a was b now → c ≡ b → after ≡ now → SoFar (Finishing m) a was c after
  finish-same c after s board log = subst (λ (l : List Played). SoFar (Finishing m) a was c l) (sym log) (subst (λ (r : Running S). SoFar (Finishing m) a was r now) (sym board) s)

  pub finish-end : SoFar (Finishing m) a was b now → AreOver m b.tasks → Grows was now (λ ps. Finishing m a ps b)
  finish-end s over = sofar-end (Finishing m) a was b now s b (over, refl)

  pub word-more : (go : Go) (c : Running S) (after : List Played) (p : Played) → SoFar (Word m go) a was b now → TurnOf m b go.cpu.0 p c → (EndsWord go.until (told_of p) → ⊥) → after ≡ p ∷ now → SoFar (Word m go) a was c after
  word-more go c after p s turn on one = sofar-more (Word m go) a was b now s c after p one (λ rest end q. (c, turn, inr (on, q)))

  pub word-last : (go : Go) (c : Running S) (after : List Played) (p : Played) → SoFar (Word m go) a was b now → TurnOf m b go.cpu.0 p c → EndsWord go.until (told_of p) → after ≡ p ∷ now → Grows was after (λ ps. Word m go a ps c)
  word-last go c after p s turn ends one = sofar-last (Word m go) a was b now s c after p one (c, turn, inl (ends, refl, refl))

  pub word-over : (go : Go) → SoFar (Word m go) a was b now → IsOver m b.tasks go.cpu.0 → Grows was now (λ ps. Word m go a ps b)
  word-over go s over = sofar-end (Word m go) a was b now s b (over, refl)

-- the words of a schedule so far
pub record ScheduleSoFar {S : Type 0} (m : Member S) (front : List Go) (a : Running S) (was : List Played) (b : Running S) (now : List Played) : Type 0 where
  pub done : List Played
  pub now_is : now ≡ logged done was
  pub leads : (words : List Go) (rest : List Played) (end : Running S) → Schedule m words b rest end → Schedule m (front ++ words) a (done ++ rest) end

pub schedule-start : {S : Type 0} (m : Member S) (a : Running S) (log : List Played) → ScheduleSoFar m [] a log a log
schedule-start m a log = record { done = []; now_is = refl; leads = λ words rest end p. p }

module _ {S : Type 0} (m : Member S) (a : Running S) (was : List Played) (b : Running S) (now : List Played) where
  schedule-more : (front : List Go) (c : Running S) (after : List Played) (go : Go) → ScheduleSoFar m front a was b now → Grows now after (λ ps. Word m go b ps c) → ScheduleSoFar m (front ++ go ∷ []) a was c after
  schedule-more front c after go s one = record {
    done = s.done ++ one.turns;
    now_is = many s.done one.turns was now after s.now_is one.now_is;
    leads = λ words rest end p. subst (λ (x : List Played). Schedule m ((front ++ go ∷ []) ++ words) a x end) (sym (append_assoc s.done one.turns rest))
        (subst (λ (x : List Go). Schedule m x a (s.done ++ (one.turns ++ rest)) end) (sym (append_assoc front (go ∷ []) words))
        (s.leads (go ∷ words) (one.turns ++ rest) end (record { now = one.turns; later = rest; mid = c; all = refl; word = one.are; goes_on = p })));
  }

  -- one word more of the list
  pub schedule-next : (words : List Go) (i : ℕ) (d : Go) (c : Running S) (after : List Played) → i < length words → ScheduleSoFar m (take i words) a was b now → Grows now after (λ ps. Word m (get_or words i d) b ps c) → ScheduleSoFar m (take (i + 1) words) a was c after
  schedule-next words i d c after h s one = subst (λ (x : List Go). ScheduleSoFar m x a was c after) (sym (take_more words i d h)) (schedule-more (take i words) c after (get_or words i d) s one)

  schedule-end : (words : List Go) → ScheduleSoFar m words a was b now → Grows was now (λ ps. Schedule m words a ps b)
  schedule-end words s = record {
    turns = s.done;
    now_is = s.now_is;
    are = subst (λ (x : List Go). Schedule m x a s.done b) (append-nil words) (subst (λ (x : List Played). Schedule m (words ++ []) a x b) (append-nil s.done) (s.leads [] [] b (refl, refl)));
  }

  -- all words of the list, and then the finishing order
  pub in-order : (words : List Go) (i : ℕ) (c : Running S) (after : List Played) → length words ≤ i → ScheduleSoFar m (take i words) a was b now → Grows now after (λ ps. Finishing m b ps c) → Grows was after (λ ps. InOrder m words a ps c)
  in-order words i c after h s finished = record {
    turns = first.turns ++ finished.turns;
    now_is = many first.turns finished.turns was now after first.now_is finished.now_is;
    are = record { scheduled = first.turns; finishing = finished.turns; mid = b; all = refl; schedule = first.are; finish = finished.are };
  }
    where
      first : Grows was now (λ ps. Schedule m words a ps b)
      first = schedule-end words (subst (λ (x : List Go). ScheduleSoFar m x a was b now) (take_all i words h) s)
