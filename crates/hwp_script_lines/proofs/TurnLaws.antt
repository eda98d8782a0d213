-- Laws of the words of a schedule.
use Rattle.std.proofs.Common.{ℕ, ◌≡◌, ◌≢◌, ◌<◌, ◌≤◌, ◌^◌, ◌+◌, ◌++◌, ◌⊎◌, Bool, true, false, true≢false, List, [], ◌∷◌, length, get_or, take, map, Bor, decimal, refl, sym, ap, subst, arith, inl, inr}
use Rattle.std.specs.Prelude.{All}
use Rattle.std.proofs.lemmas.Fmt.{decimal_is_IsNumeral}
use Rattle.std.proofs.lemmas.List.{append_cancel_right, length-map, get_or-map, take_all}
use Rattle.std.proofs.lemmas.List.Elements.{All-from_recursion, All-push, All-contains, Contains-push}
use Rattle.hwp_script_words.specs.hwp_geom.Pairs.{Pairs}
use Rattle.hwp_script_words.proofs.of_hwp_geom.WordLaws.{digits_differ}
use Rattle.hwp_script_words.specs.Numbers.{IsNumber}
use Rattle.hwp_script_lines.specs.Grammar.{pieces_of, HaveTurnNumber, IsTurn, IsTurnOver, IsTurnWord, IsSentence, IsSentenceOver, schedule_keyword, HasTurnShape, HaveTurnShape, turn_pieces}
use Rattle.hwp_script_words.specs.declared.Go.{Go}
use Rattle.hwp_script_words.specs.declared.Until.{Until}
use Rattle.hwp_script_words.specs.declared.Until.TheVariants as untils
use Rattle.hwp_script_lines.specs.declared.script_line.ScriptLine.{ScriptLine}
use Rattle.hwp_script_lines.specs.declared.script_line.ScriptLine.TheVariants as forms
use Rattle.hwp_script_words.proofs.PairsLaws.{Pairs-push, Pairs-partner, Pairs-some, take-now, All-now}

-- a number has no dot at its end
pub no_dot : (n : ℕ) → n < 2 ^ 64 → (cpu : List ℕ) → decimal n ≡ cpu ++ 46 ∷ [] → ⊥
no_dot n h cpu e =
    let plain : All (λ b. b ≢ 46) (decimal n) = digits_differ 10 46 (omega arith) (omega arith) (decimal n) (decimal_is_IsNumeral n h).0.1 in
    All-contains (λ b. b ≢ 46) (cpu ++ 46 ∷ []) 46 (subst (All (λ b. b ≢ 46)) e plain) (Contains-push cpu 46) refl

no_command-at : (cpu : List ℕ) → ((n : ℕ) → IsNumber cpu n → ⊥) → (c : ℕ) (u : Until) → c < 2 ^ 64
    → (cpu ++ 46 ∷ []) ∷ [] ≡ pieces_of c u → ⊥
no_command-at cpu none c untils.One h e = no_dot c h cpu (sym (ap (λ ws. get_or ws 0 []) e))
no_command-at cpu none c untils.Command h e =
    none c (record { fits = h; digits = append_cancel_right cpu (decimal c) (46 ∷ []) (ap (λ ws. get_or ws 0 []) e) })
no_command-at cpu none c (untils.After k) h e = absurd (omega (arith, ap length e))

-- what is no number, and a dot, is no word of a schedule
pub no_command : (cpu : List ℕ) → ((n : ℕ) → IsNumber cpu n → ⊥) → HaveTurnNumber ((cpu ++ 46 ∷ []) ∷ []) → ⊥
no_command cpu none h = no_command-at cpu none h.cpu h.until h.fits h.same

pub shape-turn_at : (pieces : List (List ℕ)) (c : ℕ) (u : Until) → pieces ≡ pieces_of c u → HaveTurnShape pieces
shape-turn_at pieces c untils.One e = inl (ap length e)
shape-turn_at pieces c untils.Command e = inl (ap length e)
shape-turn_at pieces c (untils.After k) e = inr (ap length e, (k, ap (λ us. get_or us 1 []) e))

pub shape-turn : (w : List ℕ) → IsTurnWord w → HasTurnShape w
shape-turn w h = shape-turn_at (turn_pieces w) h.cpu h.until h.same

-- what is read of the first i words: they have the shape, and they are the turns unless a word was bad or over its limit
pub record AreTurnsSoFar (ws : List (List ℕ)) (i : ℕ) (turns : List Go) (is_bad is_over : Bool) : Type 0 where
  pub shaped : All HasTurnShape (take i ws)
  pub numbers : is_bad ≡ false → All IsTurnWord (take i ws)
  pub good : is_bad ≡ false → is_over ≡ false → Pairs IsTurn (take i ws) turns
  pub ill : is_bad ≡ true → All IsTurnWord ws → ⊥
  pub high : is_over ≡ true → (ts : List Go) → Pairs IsTurn ws ts → ⊥

-- a word of a schedule is one where its number may be any
pub turn_word : (word : List ℕ) (turn : Go) → IsTurn word turn → IsTurnWord word
turn_word word turn h = record { cpu = turn.cpu.0; until = turn.until; fits = omega (arith, h.fits); same = h.same }

shaped_more : (words : List (Bor (List ℕ))) (i : ℕ) (d : Bor (List ℕ)) (P : List ℕ → Type 0) → i < length words → P (get_or words i d).now
    → All P (take i (map (λ w. w.now) words)) → All P (take (i + 1) (map (λ w. w.now) words))
shaped_more words i d P l here h = rw (take-now words i d l) (All-push P (take i (map (λ w. w.now) words)) (get_or words i d).now h here)

pub turns-good : (words : List (Bor (List ℕ))) (i : ℕ) (d : Bor (List ℕ)) (turns : List Go) (is_bad is_over : Bool) (turn : Go)
    → AreTurnsSoFar (map (λ w. w.now) words) i turns is_bad is_over → i < length words
    → IsTurn (get_or words i d).now turn → AreTurnsSoFar (map (λ w. w.now) words) (i + 1) (turns ++ turn ∷ []) is_bad is_over
turns-good words i d turns is_bad is_over turn h l is = record {
  shaped = shaped_more words i d HasTurnShape l (shape-turn_at (turn_pieces (get_or words i d).now) turn.cpu.0 turn.until is.same) h.shaped;
  numbers = λ e. shaped_more words i d IsTurnWord l (turn_word (get_or words i d).now turn is) (h.numbers e);
  good = λ e f. rw (take-now words i d l) (Pairs-push IsTurn (take i (map (λ w. w.now) words)) turns (get_or words i d).now turn (h.good e f) is);
  ill = h.ill;
  high = h.high;
}

no_turns : (words : List (Bor (List ℕ))) (i : ℕ) (d : Bor (List ℕ)) → i < length words → ((turn : Go) → IsTurn (get_or words i d).now turn → ⊥)
    → (ts : List Go) → Pairs IsTurn (map (λ w. w.now) words) ts → ⊥
no_turns words i d l none ts pairs =
    let partner = Pairs-partner IsTurn (map (λ w. w.now) words) ts i d.now pairs (rw length-map l) in
    none partner.0 (subst (λ w. IsTurn w partner.0) (get_or-map (λ w. w.now) words i d d.now l) partner.1)

pub turns-bad : (words : List (Bor (List ℕ))) (i : ℕ) (d : Bor (List ℕ)) (turns : List Go) (is_bad is_over : Bool)
    → AreTurnsSoFar (map (λ w. w.now) words) i turns is_bad is_over → i < length words → HasTurnShape (get_or words i d).now
    → (IsTurnWord (get_or words i d).now → ⊥) → AreTurnsSoFar (map (λ w. w.now) words) (i + 1) turns true is_over
turns-bad words i d turns is_bad is_over h l shape none = record {
  shaped = shaped_more words i d HasTurnShape l shape h.shaped;
  numbers = λ e. absurd (cc e);
  good = λ e f. absurd (cc e);
  ill = λ e all. none (All-now IsTurnWord words i d l all);
  high = h.high;
}

pub turns-over : (words : List (Bor (List ℕ))) (i : ℕ) (d : Bor (List ℕ)) (turns : List Go) (is_bad is_over : Bool)
    → AreTurnsSoFar (map (λ w. w.now) words) i turns is_bad is_over → i < length words → IsTurnOver (get_or words i d).now
    → AreTurnsSoFar (map (λ w. w.now) words) (i + 1) turns is_bad true
turns-over words i d turns is_bad is_over h l over = record {
  shaped = shaped_more words i d HasTurnShape l over.shaped h.shaped;
  numbers = λ e. shaped_more words i d IsTurnWord l over.number (h.numbers e);
  good = λ e f. absurd (cc f);
  ill = h.ill;
  high = λ e ts pairs. no_turns words i d l over.none ts pairs;
}

-- a word without the shape
pub turns-unknown : (words : List (Bor (List ℕ))) (i : ℕ) (d : Bor (List ℕ)) → i < length words → (HasTurnShape (get_or words i d).now → ⊥)
    → All HasTurnShape (map (λ w. w.now) words) → ⊥
turns-unknown words i d l none all = none (All-now HasTurnShape words i d l all)

-- all words have the shape
pub turns-shaped : (words : List (Bor (List ℕ))) (i : ℕ) (turns : List Go) (is_bad is_over : Bool)
    → AreTurnsSoFar (map (λ w. w.now) words) i turns is_bad is_over → length words ≤ i → All HasTurnShape (map (λ w. w.now) words)
turns-shaped words i turns is_bad is_over h all =
    subst (All HasTurnShape) (take_all i (map (λ w. w.now) words) (rw length-map all)) h.shaped

-- words that are no words of a schedule are no schedule
no_schedule : (ws : List (List ℕ)) → ((ts : List Go) → Pairs IsTurn ws ts → ⊥) → (f : ScriptLine) → IsSentence schedule_keyword ws f → ⊥
no_schedule ws none (forms.Schedule ts) h = none ts h.same
no_schedule ws none (forms.Header v) h = absurd (cc h.kind)
no_schedule ws none (forms.Command o) h = absurd (cc h.kind)
no_schedule ws none (forms.Trans m n p) h = absurd (cc h.kind)
no_schedule ws none (forms.Cow m n) h = absurd (cc h.kind)
no_schedule ws none (forms.Thread m n p b) h = absurd (cc h.kind)
no_schedule ws none (forms.Page q b l) h = absurd (cc h.kind)
no_schedule ws none forms.End h = absurd (cc h.kind)
no_schedule ws none (forms.Cpus n) h = absurd (cc h.kind)
no_schedule ws none (forms.Frames n) h = absurd (cc h.kind)
no_schedule ws none (forms.Kernel n) h = absurd (cc h.kind)
no_schedule ws none (forms.Recovery n) h = absurd (cc h.kind)
no_schedule ws none (forms.Early n) h = absurd (cc h.kind)
no_schedule ws none (forms.File n) h = absurd (cc h.kind)
no_schedule ws none (forms.Proc n) h = absurd (cc h.kind)
no_schedule ws none (forms.Guest n) h = absurd (cc h.kind)
no_schedule ws none (forms.Cpu n) h = absurd (cc h.kind)

-- all words have numbers, and one is over its limit
pub turns-high : (words : List (Bor (List ℕ))) (i : ℕ) (turns : List Go) (is_bad is_over : Bool) → AreTurnsSoFar (map (λ w. w.now) words) i turns is_bad is_over
    → is_bad ≡ false → is_over ≡ true → length words ≤ i → 0 < length words → IsSentenceOver schedule_keyword (map (λ w. w.now) words)
turns-high words i turns is_bad is_over h good high all some = record {
  shaped = (rw length-map some, turns-shaped words i turns is_bad is_over h all);
  numbers = subst (All IsTurnWord) (take_all i (map (λ w. w.now) words) (rw length-map all)) (h.numbers good);
  none = no_schedule (map (λ w. w.now) words) (h.high high);
}

-- a word of a schedule has one piece or two
pub few-pieces : (pieces : List (Bor (List ℕ))) → (length pieces < 1) ⊎ (3 ≤ length pieces) → HaveTurnShape (map (λ p. p.now) pieces) → ⊥
few-pieces pieces few h = let many = length-map pieces (λ p. p.now) in counts (length pieces) _ many few h
  where
    counts : (m n : ℕ) → n ≡ m → (m < 1) ⊎ (3 ≤ m) → {A : Type 0} → (n ≡ 1) ⊎ ((n ≡ 2) × A) → ⊥
    counts m n e (inl l) (inl h) = omega (arith, e, l, h)
    counts m n e (inl l) (inr h) = let two = h.0 in omega (arith, e, l, two)
    counts m n e (inr l) (inl h) = omega (arith, e, l, h)
    counts m n e (inr l) (inr h) = let two = h.0 in omega (arith, e, l, two)

-- before the first word, and behind the last where no word was bad or over its limit
pub turns-first : (ws : List (List ℕ)) (turns : List Go) → turns ≡ [] → AreTurnsSoFar ws 0 turns false false
turns-first ws turns none = record {
  shaped = All-from_recursion HasTurnShape (take 0 ws) tt;
  numbers = λ e. All-from_recursion IsTurnWord (take 0 ws) tt;
  good = λ e f. subst (λ ts. Pairs IsTurn [] ts) (sym none) tt;
  ill = λ e. absurd (true≢false (sym e));
  high = λ e. absurd (true≢false (sym e));
}

pub turns-last : (words : List (Bor (List ℕ))) (i : ℕ) (turns : List Go) (is_bad is_over : Bool) → AreTurnsSoFar (map (λ w. w.now) words) i turns is_bad is_over
    → is_bad ≡ false → is_over ≡ false → length words ≤ i → 0 < length words → (0 < length turns) × Pairs IsTurn (map (λ w. w.now) words) turns
turns-last words i turns is_bad is_over h good within past some =
    let all : Pairs IsTurn (map (λ w. w.now) words) turns = subst (λ us. Pairs IsTurn us turns) (take_all i (map (λ w. w.now) words) (rw length-map past)) (h.good good within) in
    (Pairs-some IsTurn (map (λ w. w.now) words) turns all (rw length-map some), all)
