-- The rule of the caches after the steps on entries: a look, a flush and a fill.
use Rattle.std.proofs.Common.{◌≡◌, ◌≢◌, ◌⊎◌, ℕ, suc, ◌+◌, ◌/◌, ◌%◌, ◌^◌, ◌<◌, ◌≤◌, ◌==◌, Bool, true, false, cond, max, List, Some, None, set, slice_get, inl, inr, refl, sym, ap, ◌∙◌, subst, arith, ne_eqb}
use Rattle.std.specs.Int.{from_bool}
use Rattle.std.proofs.lemmas.Bool.{cases_lt}
use Rattle.std.proofs.lemmas.List.{length-set}
use Rattle.std.proofs.lemmas.Option.{none-some, same_Some}
use prog.Atomic.{either}
use Rattle.hwp_core_rule.specs.hwp_geom.declared.Layout.{Layout}
use Rattle.hwp_core_rule.specs.declared.State.{State}
use Rattle.hwp_core_rule.specs.declared.View.{View}
use Rattle.hwp_core_rule.specs.Lists.{EachMember}
use Rattle.hwp_core_rule.specs.Rule.{Holds}
use Rattle.hwp_core_rule.specs.Steps.{exchanged}
use Rattle.hwp_core_rule.specs.Words.{words_of}
use Rattle.hwp_core_rule.proofs.Lists.{at_set, not-both, same-number, set_again}
use Rattle.hwp_table_words.specs.tlb.Caching.{Caching, Cleared, upto_of, with_upto}
use Rattle.hwp_table_words.specs.tlb.Rule.{CachesAgree, HaveViews, IsCleared, IsGlimpsed, IsShown, Knows, Leads, Seat, locks_in, times}
use Rattle.hwp_table_words.specs.tlb.Steps.{filled, flushed, looked}
use Rattle.hwp_table_words.specs.tlb.Words.{entry_word, is_of}
use Rattle.hwp_table_words.proofs.tlb.CachingLaws.{each-gone, each-upto, upto-listed}
use Rattle.hwp_table_words.proofs.tlb.Named.{entry-frame, slot-few}
use Rattle.hwp_table_words.proofs.tlb.SeatViews.{listed-few, seats-apart}

-- an entry that is 0 names no frame, and one of a frame no other
pub none-of : (g : ℕ) → is_of g 0 ≡ false
none-of g = ne_eqb (0 / 2 ^ 20) (g + 1) (λ e. omega (arith, e))

pub of-other : (v f g : ℕ) → v < 2 ^ 16 → g ≢ f → is_of g (entry_word v f) ≡ false
of-other v f g less other = ne_eqb (entry_word v f / 2 ^ 20) (g + 1) (λ e. other (let is : entry_word v f / 2 ^ 20 ≡ f + 1 = entry-frame v f less in omega (arith, e, is)))

-- of the first entries none names the frame, so that they are cleared of it
pub raised-cleared : (entries locks : List ℕ) (f n : ℕ) (list : List Cleared) → 0 < times f locks → ((i w : ℕ) → i < n → slice_get entries i ≡ Some w → is_of f w ≡ false) → EachMember (IsCleared entries locks) list
    → EachMember (IsCleared entries locks) (with_upto f n list)
raised-cleared entries locks f n list locked none each = each-upto (IsCleared entries locks) f n list (record { locked = λ some. locked; none = none }) raised each
  where
    raised : (c : Cleared) → c.frame ≡ f → IsCleared entries locks c → IsCleared entries locks (record c { upto = max c.upto n })
    raised c same was = record {
      locked = λ some. subst (λ (g : ℕ). 0 < times g locks) (sym same) locked;
      none = λ i w less at. elim (cases_lt i n) [
        | inl first ↦ ap (λ (g : ℕ). is_of g w) same ∙ none i w first at
        | inr later ↦ was.none i w (omega (arith, less, later)) at
      ];
    }

-- what is cleared of a frame that a list may name
pub cleared-upto : (entries locks : List ℕ) (f : ℕ) (list : List Cleared) → EachMember (IsCleared entries locks) list → IsCleared entries locks (record { frame = f; upto = upto_of f list })
cleared-upto entries locks f list each = upto-listed (IsCleared entries locks) f list (record { locked = λ some. absurd (omega (arith, some)); none = λ i w less at. absurd (omega (arith, less)) }) each

-- another word stands in an entry, that names no frame whose lock is listed
module _ (trans entries locks : List ℕ) (i new : ℕ) where
  pub cleared-set : (c : Cleared) → (0 < times c.frame locks → is_of c.frame new ≡ false) → IsCleared entries locks c → IsCleared (set entries i new) locks c
  cleared-set c other was = record {
    locked = was.locked;
    none = λ j w less at. elim (at_set entries i j new w at) [
      | inl here ↦ ap (is_of c.frame) (sym here.1) ∙ other (was.locked (omega (arith, less)))
      | inr else ↦ was.none j w less else.1
    ];
  }

  pub knows-set : (k : Caching) → ((g : ℕ) → 0 < times g locks → is_of g new ≡ false) → Knows trans entries locks k → Knows trans (set entries i new) locks k
  knows-set k other h = record {
    cleared = λ j c at. cleared-set c (other c.frame) (h.cleared j c at);
    glimpse = λ g is. let was : IsGlimpsed entries locks g = h.glimpse g is in record {
      locked = was.locked;
      now = λ w at. elim (at_set entries i g.place new w at) [
        | inl here ↦ inr (ap (is_of g.frame) (sym here.1) ∙ other g.frame was.locked)
        | inr else ↦ was.now w else.1
      ];
    };
    shown = h.shown;
  }

module _ (ways : ℕ) (layout : Layout) (s : State) (entries : List ℕ) (seats : List Seat) (h : CachesAgree ways layout s entries seats) (holds : Holds layout s) (views : HaveViews s seats)
    (id : ℕ) (mines : List (ℕ × View)) (k : Caching) (me : slice_get seats id ≡ Some (mines, k)) where
  abbrev trans : List ℕ
  trans = (words_of layout s.words).trans

  abbrev locks : List ℕ
  locks = locks_in mines

  mine : Knows trans entries locks k
  mine = h.knows id (mines, k) me

  -- a word is written to an entry
  written : (i new : ℕ) (l : Caching) → (new ≡ 0) ⊎ Leads ways trans i new → Knows trans (set entries i new) locks l
      → ((j : ℕ) (x : Seat) → j ≢ id → slice_get seats j ≡ Some x → (g : ℕ) → 0 < times g (locks_in x.0) → is_of g new ≡ false)
      → CachesAgree ways layout s (set entries i new) (set seats id (mines, l))
  written i new l leads own clear = record {
    count = length-set entries i new ∙ h.count;
    lead = λ j w at. elim (at_set entries i j new w at) [
      | inl here ↦ subst (λ (p : ℕ × ℕ). (p.1 ≡ 0) ⊎ Leads ways trans p.0 p.1) (λ n. (sym here.0 n, here.1 n)) leads
      | inr else ↦ h.lead j w else.1
    ];
    knows = λ j x at. elim (at_set seats id j (mines, l) x at) [
      | inl here ↦ subst (λ (y : Seat). Knows trans (set entries i new) (locks_in y.0) y.1) here.1 own
      | inr else ↦ knows-set trans entries (locks_in x.0) i new x.1 (clear j x else.0 else.1) (h.knows j x else.1)
    ];
  }

  -- and the word that stood there
  unwritten : (i found : ℕ) (l : Caching) → slice_get entries i ≡ Some found → Knows trans entries locks l → CachesAgree ways layout s (set entries i found) (set seats id (mines, l))
  unwritten i found l at own = subst (λ (list : List ℕ). CachesAgree ways layout s list (set seats id (mines, l))) (sym (set_again entries i found at)) (record {
    count = h.count;
    lead = h.lead;
    knows = λ j x is. elim (at_set seats id j (mines, l) x is) [
      | inl here ↦ subst (λ (y : Seat). Knows trans entries (locks_in y.0) y.1) here.1 own
      | inr else ↦ h.knows j x else.1
    ];
  })

  -- none of the first entries names the frame
  none-before : (f i : ℕ) → i ≤ upto_of f k.cleared → (j w : ℕ) → j < i → slice_get entries j ≡ Some w → is_of f w ≡ false
  none-before f i far j w less at = (cleared-upto entries locks f k.cleared mine.cleared).none j w (omega (arith, far, less)) at

  -- nor the next one
  none-first : (f i found : ℕ) → i ≤ upto_of f k.cleared → slice_get entries i ≡ Some found → is_of f found ≡ false → (j w : ℕ) → j < suc i → slice_get entries j ≡ Some w → is_of f w ≡ false
  none-first f i found far there isnt j w less at = elim (cases_lt j i) [
    | inl before ↦ none-before f i far j w before at
    | inr last ↦
        let same : j ≡ i = omega (arith, less, last) in
        ap (is_of f) (same_Some w found (sym at ∙ ap (slice_get entries) same ∙ there)) ∙ isnt
  ]

  -- an entry is looked at
  pub agree-looked : (f i found : ℕ) → 0 < times f locks → i ≤ upto_of f k.cleared → slice_get entries i ≡ Some found → CachesAgree ways layout s (set entries i found) (set seats id (mines, looked f i found k))
  agree-looked f i found locked far at = unwritten i found (looked f i found k) at (which (is_of f found) refl)
    where
      which : (b : Bool) → is_of f found ≡ b → Knows trans entries locks (cond b (record k { glimpse = Some (record { frame = f; place = i; word = found }) }) (record k { cleared = with_upto f (suc i) k.cleared }))
      which true is = record {
        cleared = mine.cleared;
        glimpse = λ g e. subst (IsGlimpsed entries locks) (same_Some (record { frame = f; place = i; word = found }) g e) (record {
          locked = locked;
          now = λ w there. inl (same_Some w found (sym there ∙ at));
        });
        shown = mine.shown;
      }
      which false isnt = record { cleared = raised-cleared entries locks f (suc i) k.cleared locked (none-first f i found far at isnt) mine.cleared; glimpse = mine.glimpse; shown = mine.shown }

  -- an entry that named a frame is taken away, or names it no longer
  pub agree-flushed : (f i seen found : ℕ) → k.glimpse ≡ Some (record { frame = f; place = i; word = seen }) → i ≤ upto_of f k.cleared → slice_get entries i ≡ Some found
      → CachesAgree ways layout s (set entries i (exchanged seen 0 found)) (set seats id (mines, flushed f i seen found k))
  agree-flushed f i seen found glimpse far at = which (found == seen) refl
    where
      saw : IsGlimpsed entries locks (record { frame = f; place = i; word = seen })
      saw = mine.glimpse (record { frame = f; place = i; word = seen }) glimpse

      then : Bool → Caching
      then b = record k { cleared = with_upto f (suc i) k.cleared; glimpse = None; counts = record k.counts { flushes = k.counts.flushes + from_bool b } }

      away : Knows trans (set entries i 0) locks k
      away = knows-set trans entries locks i 0 k (λ g listed. none-of g) mine

      none-now : (j w : ℕ) → j < suc i → slice_get (set entries i 0) j ≡ Some w → is_of f w ≡ false
      none-now j w less there = elim (at_set entries i j 0 w there) [
        | inl here ↦ ap (is_of f) (sym here.1) ∙ none-of f
        | inr else ↦ let other : j ≢ i = else.0 in none-before f i far j w (below j less other) else.1
      ]
        where
          below : (j : ℕ) → j < suc i → j ≢ i → j < i
          below j less other = elim (cases_lt j i) [
            | inl is ↦ is
            | inr past ↦ absurd (other (omega (arith, less, past)))
          ]

      which : (b : Bool) → (found == seen) ≡ b → CachesAgree ways layout s (set entries i (either b 0 found)) (set seats id (mines, then b))
      which true is = written i 0 (then true) (inl refl)
          (record { cleared = raised-cleared (set entries i 0) locks f (suc i) k.cleared saw.locked none-now away.cleared; glimpse = λ g e. absurd (none-some g e); shown = away.shown })
          (λ j x other there g listed. none-of g)
      which false isnt = unwritten i found (then false) at
          (record { cleared = raised-cleared entries locks f (suc i) k.cleared saw.locked (none-first f i found far at named) mine.cleared; glimpse = λ g e. absurd (none-some g e); shown = mine.shown })
        where
          named : is_of f found ≡ false
          named = elim (saw.now found at) [
            | inl same ↦ absurd (not-both (found == seen) (same-number found seen same) isnt)
            | inr other ↦ other
          ]

  -- an entry is written, of a translation that leads to a frame whose lock the seat has
  pub agree-filled : (v f i : ℕ) → k.shown ≡ Some (record { slot = v; frame = f }) → i % ways ≡ v % ways → CachesAgree ways layout s (set entries i (entry_word v f)) (set seats id (mines, filled f k))
  agree-filled v f i is place = written i (entry_word v f) (filled f k) (inr leads) own others
    where
      shown : IsShown trans locks (record { slot = v; frame = f })
      shown = mine.shown (record { slot = v; frame = f }) is

      few : v < 2 ^ 16
      few = let less : v < 4096 = slot-few layout s holds v (f + 1) shown.leads in omega (arith, less)

      fits : f < 2 ^ 16
      fits = listed-few layout s holds seats views f id (mines, k) me shown.locked

      leads : Leads ways trans i (entry_word v f)
      leads = record { slot = v; frame = f; word_is = refl; fits = fits; place_is = place; leads = shown.leads }

      own : Knows trans (set entries i (entry_word v f)) locks (filled f k)
      own = record {
        cleared = λ j c at. let was = each-gone (IsCleared entries locks) f k.cleared mine.cleared j c at in cleared-set trans entries locks i (entry_word v f) c (λ locked. of-other v f c.frame few was.0) was.1;
        glimpse = λ g e. absurd (none-some g e);
        shown = mine.shown;
      }

      others : (j : ℕ) (x : Seat) → j ≢ id → slice_get seats j ≡ Some x → (g : ℕ) → 0 < times g (locks_in x.0) → is_of g (entry_word v f) ≡ false
      others j x other at g listed = of-other v f g few (λ same. seats-apart layout s holds seats views f j id x (mines, k) other at me (subst (λ (n : ℕ). 0 < times n (locks_in x.0)) same listed) shown.locked)
