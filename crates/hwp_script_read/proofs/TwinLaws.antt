-- Why the twins of clean lines are private: what a layout says with one twin more, and what it leaves out.
use Rattle.std.proofs.Common.{ℕ, ◌≡◌, ◌≢◌, ◌<◌, ◌≤◌, ◌++◌, ◌||◌, Bool, true, false, List, [], ◌∷◌, length, get_or, set, Option, Some, None, zero, suc, ap, subst, ◌∙◌, sym, refl, arith, ⊎_elim, inl, inr}
use Rattle.std.specs.Prelude.{All, fold, is_some, slice_get, IsSomeAnd}
use Rattle.std.specs.List.{list_any}
use Rattle.std.proofs.lemmas.List.{get_or-set_same, get_or-set_other, length-append}
use Rattle.std.proofs.lemmas.List.Elements.{All-nil, All-cons, All-head, All-tail, All-push}
use Rattle.std.proofs.lemmas.Option.{none-some, same_Some}
use Rattle.std.proofs.lemmas.Bool.{cases_eq, or_from, or_left, or_right, or_parts}
use Rattle.hwp_script_lines.specs.hwp_geom.Layout.{IsTwinDeclared, twin_of, has_twin, is_twin, is_slot}
use Rattle.hwp_script_lines.specs.hwp_geom.declared.Layout.{Layout}
use Rattle.hwp_script_lines.specs.hwp_geom.declared.Proc.{Proc}
use Rattle.hwp_script_lines.specs.hwp_geom.declared.TransDecl.{TransDecl}
use Rattle.hwp_script_lines.specs.hwp_geom.declared.VSlot.{VSlot}
use Rattle.hwp_script_lines.specs.hwp_geom.declared.Version.TheVariants as versions
use Rattle.hwp_script_lines.specs.declared.ScriptLine.{ScriptLine}
use Rattle.hwp_script_lines.specs.declared.ScriptLine.TheVariants as forms
use Rattle.hwp_script_read.specs.Context.{version_in, version_after, twins_in, twins_after, names_in, slot_of, group, highest}
use Rattle.hwp_script_read.specs.Reasons.{IsNoPair, IsClean}
use Rattle.hwp_script_lines.specs.hwp_script_words.Valid.{IsAnon, ArePaired, IsTwinFit, AreTwinsFit}
use Rattle.hwp_script_read.proofs.ContextLaws.{pushed, twins-long}
use Rattle.hwp_script_read.proofs.CleanLaws.{none_above, clean_cow, cow_declared, clean_late}
use Rattle.hwp_script_read.proofs.CollectLaws.{same, other}
use Rattle.hwp_script_read.proofs.NameLaws.{anon_page}

abbrev pub IsNone : Option VSlot → Type 0
IsNone twin = twin ≡ None

pub same_slot : (u v : VSlot) → u.0 ≡ v.0 → u ≡ v
same_slot u v e = ap slot_of e

pub clash : (b : Bool) → b ≡ true → b ≡ false → ⊥
clash true e f = absurd (cc f)
clash false e f = absurd (cc e)

-- ---- what is in the list of twins

pub found : (ts : List (Option VSlot)) (i : ℕ) (x : VSlot) → get_or ts i None ≡ Some x → list_any (is_slot x) ts ≡ true
found [] i x e = absurd (none-some x e)
found (t ∷ ts) zero x e = let here : is_slot x t ≡ true = ap (is_slot x) e ∙ same x.0 x.0 refl in or_left (is_slot x t) (list_any (is_slot x) ts) here
found (t ∷ ts) (suc i) x e = or_right (is_slot x t) (list_any (is_slot x) ts) (found ts i x e)

left_out : (y : VSlot) (ts : List (Option VSlot)) (i : ℕ) (x : Option VSlot) → is_slot y x ≡ false → list_any (is_slot y) ts ≡ false → list_any (is_slot y) (set ts i x) ≡ false
left_out y [] i x n h = h
left_out y (t ∷ ts) zero x n h = let parts = or_parts (is_slot y t) (list_any (is_slot y) ts) h in or_from (is_slot y x) (list_any (is_slot y) ts) n parts.1
left_out y (t ∷ ts) (suc i) x n h =
    let parts = or_parts (is_slot y t) (list_any (is_slot y) ts) h in or_from (is_slot y t) (list_any (is_slot y) (set ts i x)) parts.0 (left_out y ts i x n parts.1)

pub none_at : (ts : List (Option VSlot)) (i : ℕ) → All IsNone ts → get_or ts i None ≡ None
none_at [] i h = refl
none_at (t ∷ ts) zero h = All-head IsNone t ts h
none_at (t ∷ ts) (suc i) h = none_at ts i (All-tail IsNone t ts h)

-- ---- a layout with one twin more

abbrev pub with_twin : Layout → VSlot → VSlot → Layout
with_twin l v w = record l { twins = set l.twins v.0 (Some w) }

twin_same : (l : Layout) (v w : VSlot) → v.0 < length l.twins → twin_of (with_twin l v w) v ≡ Some w
twin_same l v w within = get_or-set_same l.twins v.0 (Some w) None within

twin_other : (l : Layout) (v w u : VSlot) → u.0 ≢ v.0 → twin_of (with_twin l v w) u ≡ twin_of l u
twin_other l v w u n = get_or-set_other l.twins v.0 u.0 (Some w) None n

twin_still : (l : Layout) (v w x : VSlot) → is_twin l x ≡ false → w.0 ≢ x.0 → is_twin (with_twin l v w) x ≡ false
twin_still l v w x h n = left_out x l.twins v.0 (Some w) (other w.0 x.0 n) h

-- the two translations of a pair are two
same_page : (l : Layout) (o : Option TransDecl) → IsSomeAnd o (λ (v : TransDecl). IsSomeAnd o (λ (w : TransDecl).
    (v.process ≡ w.process) × (v.page.0 ≢ w.page.0) × IsSomeAnd (slice_get l.pages v.page.0) IsAnon × IsSomeAnd (slice_get l.pages w.page.0) IsAnon)) → ⊥
same_page l None h = h
same_page l (Some t) h = h.1 refl

pub apart : (l : Layout) (v w : VSlot) → ArePaired l v w → v.0 ≢ w.0
apart l v w h = λ e. same_page l (slice_get l.trans v.0) (subst (λ (n : ℕ). ArePaired l v (slot_of n)) (sym e) h)

new_fit : (l : Layout) (v w : VSlot) → IsTwinFit l v w → IsTwinFit (with_twin l v w) v w
new_fit l v w k =
    let differ : w.0 ≢ v.0 = λ e. apart l v w k.paired (sym e) in
    record { paired = k.paired; alone = k.alone; no_twin = twin_still l v w v k.no_twin differ; last = ap is_some (twin_other l v w w differ) ∙ k.last }

old_fit : (l : Layout) (v w u x : VSlot) → AreTwinsFit l → IsTwinFit l v w → twin_of l u ≡ Some x → IsTwinFit (with_twin l v w) u x
old_fit l v w u x h k e =
    let old = h.each u x e in
    let first : w.0 ≢ u.0 = λ s. clash (has_twin l w) (ap (has_twin l) (same_slot w u s) ∙ ap is_some e) k.last in
    let second : x.0 ≢ v.0 = λ s. clash (is_twin l v) (ap (is_twin l) (same_slot v x (sym s)) ∙ found l.twins u.0 x e) k.no_twin in
    record { paired = old.paired; alone = old.alone; no_twin = twin_still l v w u old.no_twin first; last = ap is_some (twin_other l v w x second) ∙ old.last }

-- the new twin is none that another translation has
not_taken : (l : Layout) (v w a b x : VSlot) → v.0 < length l.twins → is_twin l w ≡ false → a.0 ≡ v.0 → twin_of (with_twin l v w) a ≡ Some x → b.0 ≢ v.0 → twin_of (with_twin l v w) b ≡ Some x → ⊥
not_taken l v w a b x within fresh s ea n eb =
    let is : w ≡ x = same_Some w x (sym (twin_same l v w within) ∙ ap (twin_of (with_twin l v w)) (same_slot v a (sym s)) ∙ ea) in
    clash (is_twin l w) (ap (is_twin l) is ∙ found l.twins b.0 x (sym (twin_other l v w b n) ∙ eb)) fresh

pub more_fit : (l : Layout) (v w : VSlot) → AreTwinsFit l → IsTwinFit l v w → v.0 < length l.twins → is_twin l w ≡ false → AreTwinsFit (with_twin l v w)
more_fit l v w h k within fresh = record {
  each = λ u x e. ⊎_elim
      (λ (s : u.0 ≡ v.0).
      let is : w ≡ x = same_Some w x (sym (twin_same l v w within) ∙ ap (twin_of (with_twin l v w)) (same_slot v u (sym s)) ∙ e) in
      subst (λ (y : VSlot). IsTwinFit (with_twin l v w) u y) is (subst (λ (t : VSlot). IsTwinFit (with_twin l v w) t w) (same_slot v u (sym s)) (new_fit l v w k)))
      (λ (n : u.0 ≢ v.0). old_fit l v w u x h k (sym (twin_other l v w u n) ∙ e))
      (cases_eq u.0 v.0);
  one = λ a b x ea eb. ⊎_elim
      (λ (sa : a.0 ≡ v.0). ⊎_elim
      (λ (sb : b.0 ≡ v.0). same_slot a b (sa ∙ sym sb))
      (λ (nb : b.0 ≢ v.0). absurd (not_taken l v w a b x within fresh sa ea nb eb))
      (cases_eq b.0 v.0))
      (λ (na : a.0 ≢ v.0). ⊎_elim
      (λ (sb : b.0 ≡ v.0). absurd (not_taken l v w b a x within fresh sb eb na ea))
      (λ (nb : b.0 ≢ v.0). h.one a b x (sym (twin_other l v w a na) ∙ ea) (sym (twin_other l v w b nb) ∙ eb))
      (cases_eq b.0 v.0))
      (cases_eq a.0 v.0);
}

pub none_fit : (l : Layout) → ((v : VSlot) → twin_of l v ≡ None) → AreTwinsFit l
none_fit l none = record { each = λ v w e. absurd (none-some w (sym (none v) ∙ e)); one = λ a b x ea eb. absurd (none-some x (sym (none a) ∙ ea)) }

-- each twin of a layout whose twins fit is declared
inside : {A : Type 0} (P : A → Type 0) (xs : List A) (i : ℕ) → IsSomeAnd (slice_get xs i) P → i < length xs
inside P [] i h = absurd h
inside P (x ∷ xs) zero h = omega arith
inside P (x ∷ xs) (suc i) h = omega (arith, inside P xs i h)

second_inside : {A B : Type 0} (P : A → B → Type 0) (o : Option A) (xs : List B) (i : ℕ) → IsSomeAnd o (λ (a : A). IsSomeAnd (slice_get xs i) (P a)) → i < length xs
second_inside P None xs i h = absurd h
second_inside P (Some a) xs i h = inside (P a) xs i h

pub twin_declared : (l : Layout) (v w : VSlot) → ArePaired l v w → w.0 < length l.trans
twin_declared l v w h = second_inside (λ (v : TransDecl) (w : TransDecl).
    (v.process ≡ w.process) × (v.page.0 ≢ w.page.0) × IsSomeAnd (slice_get l.pages v.page.0) IsAnon × IsSomeAnd (slice_get l.pages w.page.0) IsAnon) (slice_get l.trans v.0) l.trans w.0 h

each_declared : (l : Layout) (ts : List (Option VSlot)) → ((i : ℕ) (w : VSlot) → get_or ts i None ≡ Some w → w.0 < length l.trans) → All (IsTwinDeclared l) ts
each_declared l [] h = All-nil (IsTwinDeclared l)
each_declared l (None ∷ ts) h = All-cons (IsTwinDeclared l) None ts tt (each_declared l ts (λ i w e. h (suc i) w e))
each_declared l (Some x ∷ ts) h = All-cons (IsTwinDeclared l) (Some x) ts (h 0 x refl) (each_declared l ts (λ i w e. h (suc i) w e))

pub twins_declared : (l : Layout) → AreTwinsFit l → All (IsTwinDeclared l) l.twins
twins_declared l h = each_declared l l.twins (λ i w e. twin_declared l (slot_of i) w (h.each (slot_of i) w e).paired)

-- a layout without its settings and its kernel's frames
abbrev pub bare : Layout → Layout
bare l = record l { kernel = []; recovery = true; early = false }

pub bare_fit : (l : Layout) → AreTwinsFit (bare l) → AreTwinsFit l
bare_fit l h = record {
  each = λ v w e. let k = h.each v w e in record { paired = k.paired; alone = k.alone; no_twin = k.no_twin; last = k.last };
  one = h.one;
}

-- ---- along lines

-- lines of low groups give no translation a twin
none_early : (ts : List (Option VSlot)) (fs : List ScriptLine) → highest fs ≤ 11 → All IsNone ts → All IsNone (fold twins_after ts fs)
none_early ts [] l h = h
none_early ts (forms.Trans v p q ∷ fs) l h = none_early (ts ++ None ∷ []) fs (omega (arith, l)) (All-push IsNone ts None h refl)
none_early ts (forms.Cow v w ∷ fs) l h = absurd (omega (arith, l))
none_early ts (f ∷ fs) l h = none_early ts fs (omega (arith, l)) h

-- a line of a high group declares no name
pub names_late : (above : List ScriptLine) (f : ScriptLine) → 13 ≤ group f → names_in (above ++ f ∷ []) ≡ names_in above
names_late above (forms.Cpu c) l = let p = pushed above (forms.Cpu c) in rw (p.version, p.cpus, p.frames, p.files, p.procs, p.threads, p.pages, p.trans, p.locked, p.twins, p.guests) refl
names_late above (forms.Command c) l = let p = pushed above (forms.Command c) in rw (p.version, p.cpus, p.frames, p.files, p.procs, p.threads, p.pages, p.trans, p.locked, p.twins, p.guests) refl
names_late above (forms.Schedule ws) l = let p = pushed above (forms.Schedule ws) in rw (p.version, p.cpus, p.frames, p.files, p.procs, p.threads, p.pages, p.trans, p.locked, p.twins, p.guests) refl
names_late above forms.End l = let p = pushed above forms.End in rw (p.version, p.cpus, p.frames, p.files, p.procs, p.threads, p.pages, p.trans, p.locked, p.twins, p.guests) refl
names_late above f l = absurd (omega (arith, l))

names_cow : (above : List ScriptLine) (v w : ℕ) → names_in (above ++ forms.Cow v w ∷ []) ≡ with_twin (names_in above) (slot_of v) (slot_of w)
names_cow above v w = let p = pushed above (forms.Cow v w) in rw (p.version, p.cpus, p.frames, p.files, p.procs, p.threads, p.pages, p.trans, p.locked, p.twins, p.guests) refl

same_proc : (p q : Proc) → (p.0 ≢ q.0 → ⊥) → p ≡ q
same_proc p q h = ⊎_elim (λ (e : p.0 ≡ q.0). let P : ℕ → Proc = λ n. record { 0 = n } in ap P e) (λ (n : p.0 ≢ q.0). absurd (h n)) (cases_eq p.0 q.0)

paired_from : (l : Layout) (o p : Option TransDecl) → (IsNoPair l.pages o p → ⊥) → IsSomeAnd o (λ (v : TransDecl). IsSomeAnd p (λ (w : TransDecl).
    (v.process ≡ w.process) × (v.page.0 ≢ w.page.0) × IsSomeAnd (slice_get l.pages v.page.0) IsAnon × IsSomeAnd (slice_get l.pages w.page.0) IsAnon))
paired_from l None p h = absurd (h tt)
paired_from l (Some v) None h = absurd (h tt)
paired_from l (Some v) (Some w) h = (
  same_proc v.process w.process (λ n. h (inl n)),
  λ e. h (inr (inl e)),
  anon_page (slice_get l.pages v.page.0) (λ e. h (inr (inr (inl e)))),
  anon_page (slice_get l.pages w.page.0) (λ e. h (inr (inr (inr e)))),
)

cow_fit : (above : List ScriptLine) (v w : ℕ) → AreTwinsFit (names_in above) → IsClean above (forms.Cow v w) → AreTwinsFit (with_twin (names_in above) (slot_of v) (slot_of w))
cow_fit above v w h k =
    let c = clean_cow k in
    let paired : ArePaired (names_in above) (slot_of v) (slot_of w) = paired_from (names_in above) _ _ c.paired in
    more_fit (names_in above) (slot_of v) (slot_of w) h (record { paired = paired; alone = c.alone; no_twin = c.no_twin; last = c.last }) (omega (arith, cow_declared k, twins-long above)) c.fresh

pub twins_step : (above : List ScriptLine) (f : ScriptLine) → AreTwinsFit (names_in above) → IsClean above f → AreTwinsFit (names_in (above ++ f ∷ []))
twins_step above (forms.Cow v w) h k = subst AreTwinsFit (sym (names_cow above v w)) (cow_fit above v w h k)
twins_step above (forms.Cpu c) h k = subst AreTwinsFit (sym (names_late above (forms.Cpu c) (omega arith))) h
twins_step above (forms.Command c) h k = subst AreTwinsFit (sym (names_late above (forms.Command c) (omega arith))) h
twins_step above (forms.Schedule ws) h k = subst AreTwinsFit (sym (names_late above (forms.Schedule ws) (omega arith))) h
twins_step above forms.End h k = subst AreTwinsFit (sym (names_late above forms.End (omega arith))) h
twins_step above f h k =
    let low : highest (above ++ f ∷ []) ≤ 11 = omega (arith, (pushed above f).group, clean_late above f k) in
    none_fit (names_in (above ++ f ∷ [])) (λ v. none_at (twins_in (above ++ f ∷ [])) v.0 (none_early [] (above ++ f ∷ []) low (All-nil IsNone)))

-- in version One no translation has a twin
pub untwinned_step : (above : List ScriptLine) (f : ScriptLine) → (version_in above ≡ versions.One → All IsNone (twins_in above)) → IsClean above f
    → version_after (version_in above) f ≡ versions.One → All IsNone (twins_after (twins_in above) f)
untwinned_step above (forms.Header v) h k one = rw (none_above k) (All-nil IsNone)
untwinned_step above (forms.Trans v p q) h k one = All-push IsNone (twins_in above) None (h one) refl
untwinned_step above (forms.Cow v w) h k one = absurd ((clean_cow k).newer one)
untwinned_step above f h k one = h one
