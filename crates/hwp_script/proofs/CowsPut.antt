-- The twins that are put behind the translations: each line is clean.
use Rattle.std.proofs.Common.{ℕ, ◌≡◌, ◌<◌, ◌≤◌, ◌^◌, ◌+◌, ◌++◌, Bool, true, false, List, [], ◌∷◌, length, get_or, set, Option, Some, None, zero, suc, ap, subst, ◌∙◌, sym, refl, arith, inl, inr}
use Rattle.std.specs.Prelude.{All, is_some, slice_get, IsSomeAnd}
use Rattle.std.specs.List.{list_any}
use Rattle.std.proofs.lemmas.List.{append-nil, append_assoc, length_push, length-append}
use Rattle.std.proofs.lemmas.List.Elements.{All-head, All-tail}
use Rattle.std.proofs.lemmas.Option.{none-some}
use Rattle.std.proofs.lemmas.Bool.{or_from}
use Rattle.hwp_script_read.specs.hwp_geom.Limits.{translation_limit, translation_limit_of}
use Rattle.hwp_script_read.specs.hwp_geom.Layout.{IsSound, has_twin, is_slot, is_twin, twin_of}
use Rattle.hwp_script_read.specs.hwp_geom.declared.Layout.{Layout}
use Rattle.hwp_script_read.specs.hwp_geom.declared.PageKind.{PageKind}
use Rattle.hwp_script_read.specs.hwp_geom.declared.PageKind.TheVariants as kinds
use Rattle.hwp_script_read.specs.hwp_geom.declared.TransDecl.{TransDecl}
use Rattle.hwp_script_read.specs.hwp_geom.declared.VSlot.{VSlot}
use Rattle.hwp_script_read.specs.hwp_geom.declared.Version.TheVariants as versions
use Rattle.hwp_script_read.specs.hwp_script_lines.declared.ScriptLine.{ScriptLine}
use Rattle.hwp_script_read.specs.hwp_script_lines.declared.ScriptLine.TheVariants as forms
use Rattle.hwp_script_read.specs.Context.{version_in, pages_in, trans_in, twins_in, slot_of}
use Rattle.hwp_script_read.specs.Reasons.{IsClean, IsNoAnonPage, IsNoPair}
use Rattle.hwp_script_read.specs.hwp_script_words.Valid.{IsAnon, ArePaired, IsTwinFit, AreTwinsFit}
use Rattle.hwp_script_read.proofs.CleanLaws.{IsCowClean, trans_most}
use Rattle.hwp_script_read.proofs.CollectLaws.{other}
use Rattle.hwp_script_read.proofs.TwinLaws.{IsNone, clash, found, same_slot, twin_declared}
use Rattle.hwp_script.specs.Text.{cow_forms, numbered}
use Rattle.hwp_script.proofs.CleanPut.{put_cow}
use Rattle.hwp_script.proofs.Sections.{Known, IsMade, nones, made_push, made_then, made_nil, placed, plain}

pub is_anon_page : (o : Option PageKind) → IsSomeAnd o IsAnon → IsNoAnonPage o → ⊥
is_anon_page None h e = absurd h
is_anon_page (Some kinds.Anon) h e = e
is_anon_page (Some (kinds.File n x)) h e = absurd h

-- ---- the twins so far, and none for the translations behind

abbrev put_so_far : List (Option VSlot) → List (Option VSlot) → List (Option VSlot)
put_so_far done rest = done ++ nones (length rest)

none_there : (n i : ℕ) → get_or (nones n) i None ≡ None
none_there zero i = refl
none_there (suc n) zero = refl
none_there (suc n) (suc i) = none_there n i

-- each twin so far is one of all
so_far : (done rest : List (Option VSlot)) (i : ℕ) (x : VSlot) → get_or (put_so_far done rest) i None ≡ Some x → get_or (done ++ rest) i None ≡ Some x
so_far [] rest i x e = absurd (none-some x (sym (none_there (length rest) i) ∙ e))
so_far (t ∷ done) rest zero x e = e
so_far (t ∷ done) rest (suc i) x e = so_far done rest i x e

at_end : (xs : List (Option VSlot)) (y : Option VSlot) (ys : List (Option VSlot)) → get_or (xs ++ y ∷ ys) (length xs) None ≡ y
at_end [] y ys = refl
at_end (x ∷ xs) y ys = at_end xs y ys

set_at : (xs : List (Option VSlot)) (x y : Option VSlot) (ys : List (Option VSlot)) → set (xs ++ x ∷ ys) (length xs) y ≡ xs ++ y ∷ ys
set_at [] x y ys = refl
set_at (z ∷ zs) x y ys = ap (λ t. z ∷ t) (set_at zs x y ys)

none_is : (w : VSlot) (ts : List (Option VSlot)) → ((i : ℕ) → get_or ts i None ≡ Some w → ⊥) → list_any (is_slot w) ts ≡ false
none_is w [] h = refl
none_is w (None ∷ ts) h = none_is w ts (λ i e. h (suc i) e)
none_is w (Some x ∷ ts) h =
    or_from (is_slot w (Some x)) (list_any (is_slot w) ts) (other x.0 w.0 (λ e. h 0 (ap Some (same_slot x w e)))) (none_is w ts (λ i e. h (suc i) e))

not_some : (o : Option VSlot) → ((x : VSlot) → o ≡ Some x → ⊥) → is_some o ≡ false
not_some None h = refl
not_some (Some x) h = absurd (h x refl)

no_pair : (l : Layout) (o p : Option TransDecl) → IsSomeAnd o (λ (v : TransDecl). IsSomeAnd p (λ (w : TransDecl).
    (v.process ≡ w.process) × (v.page.0 ≡ w.page.0 → ⊥) × IsSomeAnd (slice_get l.pages v.page.0) IsAnon × IsSomeAnd (slice_get l.pages w.page.0) IsAnon))
    → IsNoPair l.pages o p → ⊥
no_pair l None p h e = absurd h
no_pair l (Some v) None h e = absurd h
no_pair l (Some v) (Some w) h (inl e) = e (ap (λ q. q.0) h.0)
no_pair l (Some v) (Some w) h (inr (inl e)) = h.1 e
no_pair l (Some v) (Some w) h (inr (inr (inl e))) = is_anon_page (slice_get l.pages v.page.0) h.2 e
no_pair l (Some v) (Some w) h (inr (inr (inr e))) = is_anon_page (slice_get l.pages w.page.0) h.3 e

-- ---- what the list of twins says of the next one

record IsNext (l : Layout) (done : List (Option VSlot)) (w : VSlot) (rest : List (Option VSlot)) : Type 0 where
  all : done ++ Some w ∷ rest ≡ l.twins
  fit : AreTwinsFit l

twin_is : {l : Layout} {done : List (Option VSlot)} {w : VSlot} {rest : List (Option VSlot)} → IsNext l done w rest → twin_of l (slot_of (length done)) ≡ Some w
twin_is {l} {done} {w} {rest} h = ap (λ ts. get_or ts (length done) None) (sym h.all) ∙ at_end done (Some w) rest

fits : {l : Layout} {done : List (Option VSlot)} {w : VSlot} {rest : List (Option VSlot)} → IsNext l done w rest → IsTwinFit l (slot_of (length done)) w
fits {l} {done} {w} h = h.fit.each (slot_of (length done)) w (twin_is h)

whole : {l : Layout} {done : List (Option VSlot)} {w : VSlot} {rest : List (Option VSlot)} → IsNext l done w rest → (i : ℕ) (x : VSlot)
    → get_or (put_so_far done (Some w ∷ rest)) i None ≡ Some x → twin_of l (slot_of i) ≡ Some x
whole {l} {done} {w} {rest} h i x e = ap (λ ts. get_or ts i None) (sym h.all) ∙ so_far done (Some w ∷ rest) i x e

is_free : {l : Layout} {done : List (Option VSlot)} {w : VSlot} {rest : List (Option VSlot)} → IsNext l done w rest → is_some (get_or (put_so_far done (Some w ∷ rest)) (length done) None) ≡ false
is_free {l} {done} {w} {rest} h = ap is_some (at_end done None (nones (length rest)))

is_fresh : {l : Layout} {done : List (Option VSlot)} {w : VSlot} {rest : List (Option VSlot)} → IsNext l done w rest → list_any (is_slot w) (put_so_far done (Some w ∷ rest)) ≡ false
is_fresh {l} {done} {w} {rest} h = none_is w (put_so_far done (Some w ∷ rest)) (λ i e.
    let same : i ≡ length done = ap (λ (v : VSlot). v.0) (h.fit.one (slot_of i) (slot_of (length done)) w (whole h i w e) (twin_is h)) in
    none-some w (sym (at_end done None (nones (length rest))) ∙ subst (λ (k : ℕ). get_or (put_so_far done (Some w ∷ rest)) k None ≡ Some w) same e))

is_no_twin : {l : Layout} {done : List (Option VSlot)} {w : VSlot} {rest : List (Option VSlot)} → IsNext l done w rest
    → list_any (is_slot (slot_of (length done))) (put_so_far done (Some w ∷ rest)) ≡ false
is_no_twin {l} {done} {w} {rest} h = none_is (slot_of (length done)) (put_so_far done (Some w ∷ rest)) (λ i e.
    clash (is_twin l (slot_of (length done))) (found l.twins i (slot_of (length done)) (whole h i (slot_of (length done)) e)) (fits h).no_twin)

is_last : {l : Layout} {done : List (Option VSlot)} {w : VSlot} {rest : List (Option VSlot)} → IsNext l done w rest → is_some (get_or (put_so_far done (Some w ∷ rest)) w.0 None) ≡ false
is_last {l} {done} {w} {rest} h = not_some (get_or (put_so_far done (Some w ∷ rest)) w.0 None) (λ x e.
    clash (has_twin l w) (ap is_some (whole h w.0 x e)) (fits h).last)

-- the declarations above are those of the layout
pub record AreSlotsOf (k : Known) (l : Layout) : Type 0 where
  pub sound : IsSound l
  pub version : k.version ≡ l.version
  pub pages : k.pages ≡ l.pages
  pub trans : k.trans ≡ l.trans

clean : {fs : List ScriptLine} (k : Known) (l : Layout) (done : List (Option VSlot)) (w : VSlot) (rest : List (Option VSlot)) → IsMade fs 12 (record k { twins = put_so_far done (Some w ∷ rest) })
    → AreSlotsOf k l → IsNext l done w rest → 0 < k.cpus → 0 < k.frames → (k.version ≡ versions.One → All IsNone (Some w ∷ rest)) → IsCowClean fs (length done) w.0
clean {fs} k l done w rest h laid n c f older =
    let version : version_in fs ≡ l.version = ap (λ (x : Known). x.version) h.same ∙ laid.version in
    let pages : pages_in fs ≡ l.pages = ap (λ (x : Known). x.pages) h.same ∙ laid.pages in
    let trans : trans_in fs ≡ l.trans = ap (λ (x : Known). x.trans) h.same ∙ laid.trans in
    let twins : twins_in fs ≡ put_so_far done (Some w ∷ rest) = ap (λ (x : Known). x.twins) h.same in
    let is = fits n in
    let long : length l.twins ≡ length done + length (Some w ∷ rest) = ap length (sym n.all) ∙ length-append done (Some w ∷ rest) in
    let low : length done < translation_limit_of l.version = omega (arith, long, laid.sound.twins, laid.sound.within.trans) in
    let low_twin : w.0 < translation_limit_of l.version = omega (arith, twin_declared l (slot_of (length done)) w is.paired, laid.sound.within.trans) in
    record {
      placed = placed h c f;
      newer = λ one. none-some w (sym (All-head IsNone (Some w) rest (older (sym (ap (λ (x : Known). x.version) h.same) ∙ one))));
      low = rw version low;
      low_twin = rw version low_twin;
      paired = λ e. no_pair l (slice_get l.trans (length done)) (slice_get l.trans w.0) is.paired (rw (pages, trans) at e);
      free = rw twins (is_free n);
      fresh = rw twins (is_fresh n);
      no_twin = rw twins (is_no_twin n);
      last = rw twins (is_last n);
      alone = rw trans is.alone;
    }

pub made_cows : {fs : List ScriptLine} (k : Known) (l : Layout) (done rest : List (Option VSlot)) → IsMade fs 12 (record k { twins = put_so_far done rest }) → AreSlotsOf k l → AreTwinsFit l
    → done ++ rest ≡ l.twins → 0 < k.cpus → 0 < k.frames → (k.version ≡ versions.One → All IsNone rest)
    → IsMade (fs ++ numbered cow_forms (length done) rest) 12 (record k { twins = done ++ rest })
made_cows k l done [] h laid fit all c f older = made_nil h
made_cows {fs} k l done (None ∷ rest) h laid fit all c f older =
    let next : IsMade fs 12 (record k { twins = put_so_far (done ++ None ∷ []) rest }) = rw (append_assoc done (None ∷ []) (nones (length rest))) h in
    let made = made_cows k l (done ++ None ∷ []) rest next laid fit (append_assoc done (None ∷ []) rest ∙ all) c f (λ one. All-tail IsNone None rest (older one)) in
    rw (length_push, append_assoc done (None ∷ []) rest) at made
made_cows {fs} k l done (Some w ∷ rest) h laid fit all c f older =
    let n : IsNext l done w rest = record { all = all; fit = fit } in
    let is = clean k l done w rest h laid n c f older in
    let most : translation_limit_of (version_in fs) ≤ translation_limit = trans_most (version_in fs) in
    let twins : set (put_so_far done (Some w ∷ rest)) (length done) (Some w) ≡ put_so_far (done ++ Some w ∷ []) rest =
    set_at done None (Some w) (nones (length rest)) ∙ sym (append_assoc done (Some w ∷ []) (nones (length rest))) in
    let pushed : IsMade (fs ++ forms.Cow (length done) w.0 ∷ []) 12 (record k { twins = put_so_far (done ++ Some w ∷ []) rest }) =
    subst (λ (ts : List (Option VSlot)). IsMade (fs ++ forms.Cow (length done) w.0 ∷ []) 12 (record k { twins = ts })) twins
    (made_push (forms.Cow (length done) w.0) h (omega arith) (plain (omega (arith, is.low, most), omega (arith, is.low_twin, most)) refl) (put_cow h.some is)) in
    let made = made_cows k l (done ++ Some w ∷ []) rest pushed laid fit (append_assoc done (Some w ∷ []) rest ∙ all) c f (λ one. All-tail IsNone (Some w) rest (older one)) in
    made_then fs (forms.Cow (length done) w.0) (numbered cow_forms (length done + 1) rest) (rw (length_push, append_assoc done (Some w ∷ []) rest) at made)
