-- The words of a page, with and without `locked` at the end.
use Rattle.std.proofs.Common.{ℕ, ◌≡◌, ◌<◌, ◌+◌, ◌⊎◌, inl, inr, ◌++◌, zero, suc, Bool, List, [], ◌∷◌, Bor, length, map, get_or, codes, decimal, refl, sym, ap, subst, ◌∙◌, arith}
use Rattle.std.proofs.lemmas.List.{length-append, length-map}
use Rattle.std.specs.Fmt.{digits}
use Rattle.hwp_script_words.specs.hwp_geom.Limits.{number}
use Rattle.hwp_script_words.specs.hwp_geom.declared.Version.{Version}
use Rattle.hwp_script_words.specs.hwp_geom.declared.Version.TheVariants as versions
use Rattle.hwp_script_words.specs.Numbers.{IsNumber, IsNumberWord}
use Rattle.hwp_script_lines.specs.Grammar.{HasShape, HasPageShape, HasLockedShape, HaveNumbers, IsSentence, handler_text, page_keyword, thread_keyword}
use Rattle.hwp_script_lines.specs.Misfits.{ArePageWords, IsPageMisfit, IsLockedFront, IsSentenceMisfit}
use Rattle.hwp_script_lines.specs.declared.script_line.Backing.TheVariants as backings
use Rattle.hwp_script_lines.specs.declared.script_line.ScriptLine.TheVariants as forms
use Rattle.hwp_script_lines.specs.declared.numbers.Misfit.{Misfit}
use Rattle.hwp_script_lines.specs.declared.numbers.Misfit.TheVariants as misfits
use Rattle.hwp_script_words.proofs.PairsLaws.{two-of, four-of, five-of, now-at}

-- the digits of both versions
pub one_digit : decimal (number versions.One) ≡ codes "1"
unfolding digits
one_digit = refl

pub two_digit : decimal (number versions.Two) ≡ codes "2"
unfolding digits
two_digit = refl

pub no_version : (word : List ℕ) → (word ≡ codes "1" → ⊥) → (word ≡ codes "2" → ⊥) → (v : Version) → word ≡ decimal (number v) → ⊥
no_version word one two versions.One e = one (e ∙ one_digit)
no_version word one two versions.Two e = two (e ∙ two_digit)

-- the words before the last one
before : (front : List (List ℕ)) (w : List ℕ) (i : ℕ) → i < length front → get_or (front ++ w ∷ []) i [] ≡ get_or front i []
before [] w i l = absurd (omega (arith, l))
before (u ∷ us) w zero l = refl
before (u ∷ us) w (suc i) l = before us w i (omega (arith, l))

last : (front : List (List ℕ)) (w : List ℕ) (i : ℕ) → i ≡ length front → get_or (front ++ w ∷ []) i [] ≡ w
last [] w zero e = refl
last [] w (suc i) e = absurd (omega (arith, e))
last (u ∷ us) w zero e = absurd (omega (arith, e))
last (u ∷ us) w (suc i) e = last us w i (omega (arith, e))

at_front : {ws front : List (List ℕ)} → IsLockedFront ws front → (i : ℕ) → i < length front → get_or ws i [] ≡ get_or front i []
at_front {ws} {front} f i l = ap (λ us. get_or us i []) f.same ∙ before front (codes "locked") i l

at_end : {ws front : List (List ℕ)} → IsLockedFront ws front → (i : ℕ) → i ≡ length front → get_or ws i [] ≡ codes "locked"
at_end {ws} {front} f i e = ap (λ us. get_or us i []) f.same ∙ last front (codes "locked") i e

longer : {ws front : List (List ℕ)} → IsLockedFront ws front → length ws ≡ length front + 1
longer {ws} {front} f = ap length f.same ∙ length-append front (codes "locked" ∷ [])

locked_shape : {ws front : List (List ℕ)} → IsLockedFront ws front → HasPageShape front → HasLockedShape ws
locked_shape f (inl s) = let many = longer f in let two = s.0 in
    inl (omega (arith, many, two), at_front f 1 (omega (arith, two)) ∙ s.1, at_end f 2 (omega (arith, two)))
locked_shape f (inr s) = let many = longer f in let five = s.0 in
    inr (omega (arith, many, five), at_front f 1 (omega (arith, five)) ∙ s.1, at_front f 3 (omega (arith, five)) ∙ s.2, at_end f 5 (omega (arith, five)))

front_shape : {ws front : List (List ℕ)} → IsLockedFront ws front → HasLockedShape ws → HasPageShape front
front_shape f (inl s) = let many = longer f in let three = s.0 in
    inl (omega (arith, many, three), sym (at_front f 1 (omega (arith, many, three))) ∙ s.1)
front_shape f (inr s) = let many = longer f in let six = s.0 in
    inr (omega (arith, many, six), sym (at_front f 1 (omega (arith, many, six))) ∙ s.1, sym (at_front f 3 (omega (arith, many, six))) ∙ s.2)

-- a page's words are two or five
page_long : (ws : List (List ℕ)) → HasPageShape ws → (length ws ≡ 2) ⊎ (length ws ≡ 5)
page_long ws (inl s) = inl s.0
page_long ws (inr s) = inr s.0

not_both : (m n : ℕ) → (m ≡ 2) ⊎ (m ≡ 5) → (n ≡ 2) ⊎ (n ≡ 5) → m ≡ n + 1 → ⊥
not_both m n (inl a) (inl b) e = omega (arith, a, b, e)
not_both m n (inl a) (inr b) e = omega (arith, a, b, e)
not_both m n (inr a) (inl b) e = omega (arith, a, b, e)
not_both m n (inr a) (inr b) e = omega (arith, a, b, e)

some_front : (n : ℕ) → (n ≡ 2) ⊎ (n ≡ 5) → 0 < n
some_front n (inl e) = omega (arith, e)
some_front n (inr e) = omega (arith, e)

shape_behind : {ws front : List (List ℕ)} → IsLockedFront ws front → HasShape page_keyword ws → HasPageShape front
shape_behind {ws} {front} f (inl s) = absurd (not_both (length ws) (length front) (page_long ws s) f.count (longer f))
shape_behind f (inr s) = front_shape f s

front_numbers : {ws front : List (List ℕ)} → IsLockedFront ws front → HasPageShape front → HaveNumbers page_keyword ws → HaveNumbers page_keyword front
front_numbers {ws} {front} f shape h =
    let many = longer f in (
      subst IsNumberWord (at_front f 0 (some_front (length front) (page_long front shape))) h.0,
      λ more. let five : 4 < length front = which (page_long front shape) more in
          let both = h.1 (omega (arith, many, more)) in
          (subst IsNumberWord (at_front f 2 (omega (arith, five))) both.0, subst IsNumberWord (at_front f 4 five) both.1),
    )
  where
    which : (length front ≡ 2) ⊎ (length front ≡ 5) → 3 < length front → 4 < length front
    which (inl e) l = absurd (omega (arith, e, l))
    which (inr e) l = omega (arith, e)

pub locked_misfit : (ws front : List (List ℕ)) (e : Misfit) → IsLockedFront ws front → IsPageMisfit front e → IsSentenceMisfit page_keyword ws e
locked_misfit ws front misfits.Unknown f h = λ s. h (shape_behind f s)
locked_misfit ws front misfits.BadNumber f h = (inr (locked_shape f h.0), λ n. h.1 (front_numbers f h.0 n))
locked_misfit ws front misfits.OverLimit f h = absurd h

-- the words of a page, as they are read
module _ (words : List (Bor (List ℕ))) (d : Bor (List ℕ)) where
  pub no-page : (length words ≡ 2 → (get_or words 1 d).now ≡ codes "anon" → ⊥) → (length words ≡ 5 → (get_or words 1 d).now ≡ codes "file" → (get_or words 3 d).now ≡ codes "fill" → ⊥)
      → HasPageShape (map (λ w. w.now) words) → ⊥
  no-page two five (inl s) = let many = sym (length-map words (λ w. w.now)) ∙ s.0 in two many (sym (now-at words 1 d (omega (arith, many))) ∙ s.1)
  no-page two five (inr s) =
      let many = sym (length-map words (λ w. w.now)) ∙ s.0 in
      five many (sym (now-at words 1 d (omega (arith, many))) ∙ s.1) (sym (now-at words 3 d (omega (arith, many))) ∙ s.2)

  pub anon-page : (page : ℕ) → length words ≡ 2 → (get_or words 1 d).now ≡ codes "anon" → IsNumber (get_or words 0 d).now page → ArePageWords (map (λ w. w.now) words) (page, backings.Anon)
  anon-page page many kind n = record { fits = n.fits; same = two-of words d many ∙ ap (λ w. w ∷ (get_or words 1 d).now ∷ []) n.digits ∙ ap (λ w. decimal page ∷ w ∷ []) kind }

  pub no-anon-number : length words ≡ 2 → (get_or words 1 d).now ≡ codes "anon" → ((n : ℕ) → IsNumber (get_or words 0 d).now n → ⊥) → IsPageMisfit (map (λ w. w.now) words) misfits.BadNumber
  no-anon-number many kind none =
      (inl (length-map words (λ w. w.now) ∙ many, now-at words 1 d (omega (arith, many)) ∙ kind), λ h. none h.0.0 (subst (λ w. IsNumber w h.0.0) (now-at words 0 d (omega (arith, many))) h.0.1))

  pub file-page : (page file fill : ℕ) → length words ≡ 5 → (get_or words 1 d).now ≡ codes "file" → (get_or words 3 d).now ≡ codes "fill"
      → IsNumber (get_or words 0 d).now page → IsNumber (get_or words 2 d).now file → IsNumber (get_or words 4 d).now fill → ArePageWords (map (λ w. w.now) words) (page, backings.File file fill)
  file-page page file fill many kind of a b e =
      record { fits = (a.fits, b.fits, e.fits); same = five-of words d many ∙ rw (a.digits, kind, b.digits, of, e.digits) refl }

  pub no-file-numbers : length words ≡ 5 → (get_or words 1 d).now ≡ codes "file" → (get_or words 3 d).now ≡ codes "fill"
      → ((m n p : ℕ) → IsNumber (get_or words 0 d).now m → IsNumber (get_or words 2 d).now n → IsNumber (get_or words 4 d).now p → ⊥) → IsPageMisfit (map (λ w. w.now) words) misfits.BadNumber
  no-file-numbers many kind of none = (
    inr (length-map words (λ w. w.now) ∙ many, now-at words 1 d (omega (arith, many)) ∙ kind, now-at words 3 d (omega (arith, many)) ∙ of),
    λ h.
        let more = h.1 (rw length-map (omega (arith, many))) in
        none h.0.0 more.0.0 more.1.0 (at 0 h.0.0 (omega arith) h.0.1) (at 2 more.0.0 (omega arith) more.0.1) (at 4 more.1.0 (omega arith) more.1.1),
  )
    where
      at : (i n : ℕ) → i < 5 → IsNumber (get_or (map (λ w. w.now) words) i []) n → IsNumber (get_or words i d).now n
      at i n l is = subst (λ w. IsNumber w n) (now-at words i d (omega (arith, l, many))) is

  -- the words of a thread
  pub no-handler : ((handler : Bool) → (get_or words 3 d).now ≡ handler_text handler → ⊥) → length words ≡ 4 → HasShape thread_keyword (map (λ w. w.now) words) → ⊥
  no-handler none many h = none h.1.0 (sym (now-at words 3 d (omega (arith, many))) ∙ h.1.1)

  pub thread-sentence : (thread process cpu : ℕ) (handler : Bool) → length words ≡ 4 → (get_or words 3 d).now ≡ handler_text handler
      → IsNumber (get_or words 0 d).now thread → IsNumber (get_or words 1 d).now process → IsNumber (get_or words 2 d).now cpu → IsSentence thread_keyword (map (λ w. w.now) words) (forms.Thread thread process cpu handler)
  thread-sentence thread process cpu handler many last a b e =
      record { kind = refl; fits = (a.fits, b.fits, e.fits); same = four-of words d many ∙ rw (a.digits, b.digits, e.digits, last) refl }
