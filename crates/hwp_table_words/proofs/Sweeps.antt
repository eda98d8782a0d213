-- What a sweep does: entry after entry is cleared of a frame, and what is known else of the caches stays.
use Rattle.std.proofs.Common.{◌≡◌, ℕ, suc, ◌+◌, ◌-◌, ◌^◌, ◌<◌, ◌≤◌, Bool, true, false, cond, min, max, refl, sym, ap, ◌∙◌, subst, arith}
use Rattle.std.specs.Prelude.{Some}
use Rattle.hwp_table_words.specs.tlb.Caching.{Caching, upto_of, with_upto}
use Rattle.hwp_table_words.specs.tlb.Steps.{flushed, looked}
use Rattle.hwp_table_words.specs.tlb.Words.{is_of}
use Rattle.hwp_table_words.proofs.tlb.CachingLaws.{upto-grows, upto-raised}
use Rattle.hwp_table_words.specs.CacheCounts.{capped}
use Rattle.hwp_table_words.specs.CachePlays.{with_caching}
use Rattle.hwp_table_words.specs.Caches.{IsSweptOn}
use Rattle.hwp_table_words.specs.Stands.{Me}

pub swept-same : (m : Me) → IsSweptOn m m
swept-same m = record { rest = refl; grows = λ f. omega arith }

pub swept-on : {m n o : Me} → IsSweptOn m n → IsSweptOn n o → IsSweptOn m o
swept-on {m} {n} {o} a b = record {
  rest = b.rest ∙ ap (with_caching o.0.caching) a.rest;
  grows = λ f. let one : upto_of f m.0.caching.cleared ≤ upto_of f n.0.caching.cleared = a.grows f in let two : upto_of f n.0.caching.cleared ≤ upto_of f o.0.caching.cleared = b.grows f in omega (arith, one, two);
}

-- one entry more is cleared of the frame
raised : (f p : ℕ) (k : Caching) → p < upto_of f (with_upto f (suc p) k.cleared)
raised f p k = let e : upto_of f (with_upto f (suc p) k.cleared) ≡ max (upto_of f k.cleared) (suc p) = upto-raised f (suc p) k.cleared in omega (arith, e)

module _ (f p found : ℕ) (m : Me) where
  abbrev k : Caching
  k = m.0.caching

  abbrev then : Me
  then = with_caching (looked f p found k) m

  by-look : (n : Me) → n ≡ then → (b : Bool) → is_of f found ≡ b → n ≡ with_caching (cond b (record k { glimpse = Some (record { frame = f; place = p; word = found }) }) (record k { cleared = with_upto f (suc p) k.cleared })) m
  by-look n is b e = is ∙ ap (λ (c : Bool). with_caching (cond c (record k { glimpse = Some (record { frame = f; place = p; word = found }) }) (record k { cleared = with_upto f (suc p) k.cleared })) m) e

  -- an entry that doesn't name the frame
  module _ (n : Me) (is : n ≡ then) (other : is_of f found ≡ false) where
    abbrev passed : Me
    passed = with_caching (record k { cleared = with_upto f (suc p) k.cleared }) m

    is-passed : n ≡ passed
    is-passed = by-look n is false other

    pub passed-on : IsSweptOn m n
    passed-on = subst (IsSweptOn m) (sym is-passed) (record { rest = refl; grows = λ g. upto-grows f g (suc p) k.cleared })

    pub passed-cleared : p < upto_of f n.0.caching.cleared
    passed-cleared = subst (λ (o : Me). p < upto_of f o.0.caching.cleared) (sym is-passed) (raised f p k)

  -- one that names it is taken away
  module _ (n : Me) (is : n ≡ then) (ours : is_of f found ≡ true) where
    abbrev seen : Me
    seen = with_caching (record k { glimpse = Some (record { frame = f; place = p; word = found }) }) m

    is-seen : n ≡ seen
    is-seen = by-look n is true ours

    seen-on : IsSweptOn m n
    seen-on = subst (IsSweptOn m) (sym is-seen) (record { rest = refl; grows = λ g. omega arith })

    module _ (again : ℕ) (o : Me) (gone : o ≡ with_caching (flushed f p found again n.0.caching) n) where
      flushed-on : IsSweptOn n o
      flushed-on = subst (IsSweptOn n) (sym gone) (record { rest = refl; grows = λ g. upto-grows f g (suc p) n.0.caching.cleared })

      pub gone-on : IsSweptOn m o
      gone-on = swept-on seen-on flushed-on

      pub gone-cleared : p < upto_of f o.0.caching.cleared
      gone-cleared = subst (λ (q : Me). p < upto_of f q.0.caching.cleared) (sym gone) (raised f p n.0.caching)

-- a number that stops at the highest goes on
pub one-more : (n d : ℕ) → min (capped n + d) (2 ^ 64 - 1) ≡ capped (n + d)
one-more n d = let e : capped n ≡ min n (2 ^ 64 - 1) = refl in let g : capped (n + d) ≡ min (n + d) (2 ^ 64 - 1) = refl in omega (arith, e, g)

pub through : (a b c : ℕ) → a ≤ b → b ≤ c → a ≤ c
through a b c x y = omega (arith, x, y)
