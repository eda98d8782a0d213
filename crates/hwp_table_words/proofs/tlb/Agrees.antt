-- The rule of the caches where seats are cut in two or take another in, and where a seat only counts.
use Rattle.std.proofs.Common.{◌≡◌, ℕ, ◌+◌, ◌*◌, ◌<◌, List, [], ◌∷◌, ◌++◌, inl, Some, None, set, length, slice_get, refl, sym, ap, ◌∙◌, arith}
use Rattle.std.proofs.lemmas.List.{append_assoc}
use Rattle.std.proofs.lemmas.Option.{none-some}
use Rattle.hwp_core_rule.specs.hwp_geom.declared.Layout.{Layout}
use Rattle.hwp_core_rule.specs.declared.State.{State}
use Rattle.hwp_core_rule.specs.declared.View.{View}
use Rattle.hwp_core_rule.specs.Lists.{EachMember}
use Rattle.hwp_core_rule.specs.Words.{words_of}
use Rattle.hwp_core_rule.proofs.Lists.{each-set, each-push}
use Rattle.hwp_table_words.specs.tlb.Caching.{Caching, Counts, forgotten, idle_caching, joined_caching}
use Rattle.hwp_table_words.specs.tlb.Rule.{CachesAgree, IsCleared, IsGlimpsed, IsShown, Knows, Seat, frames_of, locks_in, times}
use Rattle.hwp_table_words.specs.tlb.Steps.{hit}
use Rattle.hwp_table_words.proofs.tlb.LockTimes.{times-append}

-- who lists nothing is right
pub knows-nothing : (trans entries locks : List ℕ) (counts : Counts) → Knows trans entries locks (record { cleared = []; glimpse = None; shown = None; counts = counts })
knows-nothing trans entries locks counts = record {
  cleared = λ i x e. absurd (none-some x e);
  glimpse = λ g e. absurd (none-some g e);
  shown = λ s e. absurd (none-some s e);
}

-- and who has more locks is as right as before
pub knows-more : (trans entries xs ys : List ℕ) (k : Caching) → ((f : ℕ) → 0 < times f xs → 0 < times f ys) → Knows trans entries xs k → Knows trans entries ys k
knows-more trans entries xs ys k more h = record {
  cleared = λ i x e. let was : IsCleared entries xs x = h.cleared i x e in record { locked = λ some. more x.frame (was.locked some); none = was.none };
  glimpse = λ g e. let was : IsGlimpsed entries xs g = h.glimpse g e in record { locked = more g.frame was.locked; now = was.now };
  shown = λ s e. let was : IsShown trans xs s = h.shown s e in record { locked = more s.frame was.locked; leads = was.leads };
}

-- what it counted is no part of it
pub knows-counts : (trans entries locks : List ℕ) (k : Caching) (counts : Counts) → Knows trans entries locks k → Knows trans entries locks (record k { counts = counts })
knows-counts trans entries locks k counts h = record { cleared = h.cleared; glimpse = h.glimpse; shown = h.shown }

locks-joined : (xs ys : List (ℕ × View)) → locks_in (xs ++ ys) ≡ locks_in xs ++ locks_in ys
locks-joined [] ys = refl
locks-joined (x ∷ xs) ys = ap (λ (l : List ℕ). frames_of x.1.locks ++ l) (locks-joined xs ys) ∙ sym (append_assoc (frames_of x.1.locks) (locks_in xs) (locks_in ys))

-- all entries are 0 at first, and the first seat knows nothing
pub first-agree : (ways : ℕ) (layout : Layout) (s : State) (entries : List ℕ) (mines : List (ℕ × View)) → length entries ≡ ways * layout.cpus → ((i w : ℕ) → slice_get entries i ≡ Some w → w ≡ 0)
    → CachesAgree ways layout s entries ((mines, idle_caching) ∷ [])
first-agree ways layout s entries mines count zeros = record {
  count = count;
  lead = λ i w e. inl (zeros i w e);
  knows = each-push P [] (mines, idle_caching) (knows-nothing (words_of layout s.words).trans entries (locks_in mines) _) (λ i x e. absurd (none-some x e));
}
  where
    P : Seat → Type 0
    P x = Knows (words_of layout s.words).trans entries (locks_in x.0) x.1

module _ (ways : ℕ) (layout : Layout) (s : State) (entries : List ℕ) (seats : List Seat) (h : CachesAgree ways layout s entries seats) where
  abbrev trans : List ℕ
  trans = (words_of layout s.words).trans

  abbrev IsRight : Seat → Type 0
  IsRight x = Knows trans entries (locks_in x.0) x.1

  with-seats : (list : List Seat) → EachMember IsRight list → CachesAgree ways layout s entries list
  with-seats list knows = record { count = h.count; lead = h.lead; knows = knows }

  -- a seat becomes another, and one more comes
  pub agree-cut : (id : ℕ) (xs ys : List (ℕ × View)) (a b : Caching) → Knows trans entries (locks_in xs) a → Knows trans entries (locks_in ys) b → CachesAgree ways layout s entries (set seats id (xs, a) ++ (ys, b) ∷ [])
  agree-cut id xs ys a b p q = with-seats (set seats id (xs, a) ++ (ys, b) ∷ []) (each-push IsRight (set seats id (xs, a)) (ys, b) q (each-set IsRight seats id (xs, a) p h.knows))

  -- a seat without views comes, that knows nothing
  pub agree-noted : (id : ℕ) (mines : List (ℕ × View)) (k : Caching) → slice_get seats id ≡ Some (mines, k) → CachesAgree ways layout s entries (set seats id (mines, k) ++ ([], idle_caching) ∷ [])
  agree-noted id mines k me = agree-cut id mines [] k idle_caching (h.knows id (mines, k) me) (knows-nothing trans entries [] _)

  -- the views of a seat go apart, and both parts forget what it listed
  pub agree-dealt : (id : ℕ) (xs ys : List (ℕ × View)) (k : Caching) → CachesAgree ways layout s entries (set seats id (xs, forgotten k) ++ (ys, idle_caching) ∷ [])
  agree-dealt id xs ys k = agree-cut id xs ys (forgotten k) idle_caching (knows-nothing trans entries (locks_in xs) k.counts) (knows-nothing trans entries (locks_in ys) _)

  -- a seat takes in another, and keeps what it listed
  pub agree-joined : (id other : ℕ) (xs ys : List (ℕ × View)) (k l : Caching) → slice_get seats id ≡ Some (xs, k) → CachesAgree ways layout s entries (set (set seats id (xs ++ ys, joined_caching k l)) other ([], idle_caching))
  agree-joined id other xs ys k l me = with-seats (set (set seats id (xs ++ ys, joined_caching k l)) other ([], idle_caching))
      (each-set IsRight (set seats id (xs ++ ys, joined_caching k l)) other ([], idle_caching) (knows-nothing trans entries [] _) (each-set IsRight seats id (xs ++ ys, joined_caching k l) right h.knows))
    where
      more : (f : ℕ) → 0 < times f (locks_in xs) → 0 < times f (locks_in (xs ++ ys))
      more f some =
          let all : times f (locks_in (xs ++ ys)) ≡ times f (locks_in xs) + times f (locks_in ys) = ap (times f) (locks-joined xs ys) ∙ times-append f (locks_in xs) (locks_in ys) in
          omega (arith, all, some)

      right : IsRight (xs ++ ys, joined_caching k l)
      right = knows-more trans entries (locks_in xs) (locks_in (xs ++ ys)) (joined_caching k l) more (knows-counts trans entries (locks_in xs) k (joined_caching k l).counts (h.knows id (xs, k) me))

  -- an entry answered a load of the seat
  pub agree-hit : (id : ℕ) (mines : List (ℕ × View)) (k : Caching) → slice_get seats id ≡ Some (mines, k) → CachesAgree ways layout s entries (set seats id (mines, hit k))
  agree-hit id mines k me = with-seats (set seats id (mines, hit k)) (each-set IsRight seats id (mines, hit k) (knows-counts trans entries (locks_in mines) k (hit k).counts (h.knows id (mines, k) me)) h.knows)
