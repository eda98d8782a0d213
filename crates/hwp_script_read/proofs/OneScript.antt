-- A text is read as one script at most.
use Rattle.std.proofs.Common.{ℕ, ◌≡◌, Bool, true, false, List, [], ◌∷◌, length, map, Option, Some, suc, ap, subst, ◌∙◌, sym, refl, arith}
use Rattle.std.specs.Prelude.{◌↔◌, slice_get}
use Rattle.hwp_script_lines.specs.hwp_geom.declared.Layout.{Layout}
use Rattle.hwp_script_lines.specs.hwp_geom.declared.Version.{Version}
use Rattle.hwp_script_lines.specs.hwp_geom.declared.ThreadDecl.{ThreadDecl}
use Rattle.hwp_script_lines.specs.hwp_geom.declared.TransDecl.{TransDecl}
use Rattle.hwp_script_lines.specs.hwp_geom.declared.PageKind.{PageKind}
use Rattle.hwp_script_lines.specs.hwp_geom.declared.VSlot.{VSlot}
use Rattle.hwp_script_lines.specs.declared.ScriptLine.{ScriptLine}
use Rattle.hwp_script_lines.specs.declared.Numbered.{Numbered}
use Rattle.hwp_script_lines.proofs.LineLaws.{one_reading}
use Rattle.hwp_script_lines.specs.declared.Script.{Script}
use Rattle.hwp_script_lines.specs.declared.Command.{Command}
use Rattle.hwp_script_lines.specs.declared.Go.{Go}
use Rattle.hwp_script_read.specs.Collects.{Collects}
use Rattle.hwp_script_read.specs.Reads.{Reads}
use Rattle.hwp_script_read.proofs.ReadLaws.{same_forms}

-- marks of the same frames
pub record AreAlike (xs ys : List Bool) : Type 0 where
  pub long : length xs ≡ length ys
  pub each : (i : ℕ) → (slice_get xs i ≡ Some true) ↔ (slice_get ys i ≡ Some true)

first_mark : (x y : Bool) → (Some x ≡ Some true → Some y ≡ Some true) → (Some y ≡ Some true → Some x ≡ Some true) → x ≡ y
first_mark true true h k = refl
first_mark true false h k = sym (absurd (cc (h refl)))
first_mark false true h k = absurd (cc (k refl))
first_mark false false h k = refl

marks_same : (xs ys : List Bool) → AreAlike xs ys → xs ≡ ys
marks_same [] [] h = refl
marks_same [] (y ∷ ys) h = absurd (omega (arith, h.long))
marks_same (x ∷ xs) [] h = absurd (omega (arith, h.long))
marks_same (x ∷ xs) (y ∷ ys) h =
    let here : x ≡ y = first_mark x y (h.each 0).0 (h.each 0).1 in
    let rest : xs ≡ ys = marks_same xs ys (record { long = omega (arith, h.long); each = λ i. h.each (suc i) }) in cc

abbrev laid_out : Version → ℕ → ℕ → List Bool → Bool → Bool → ℕ → ℕ → List ThreadDecl → List PageKind → List TransDecl → List Bool → List (Option VSlot) → List Bool → Layout
laid_out v c f k r e n p ts qs vs ls ws gs =
    record { version = v; cpus = c; frames = f; kernel = k; recovery = r; early = e; files = n; procs = p; threads = ts; pages = qs; trans = vs; locked = ls; twins = ws; guests = gs }

abbrev script_made : Layout → List (List Command) → List Go → Script
script_made l lists go = record { layout = l; lists = lists; go = go }

collected_once : (fs : List ScriptLine) (s t : Script) → Collects fs s → Collects fs t → t ≡ s
collected_once fs s t h k =
    let version : t.layout.version ≡ s.layout.version = k.version ∙ sym h.version in
    let cpus : t.layout.cpus ≡ s.layout.cpus = k.cpus ∙ sym h.cpus in
    let frames : t.layout.frames ≡ s.layout.frames = k.frames ∙ sym h.frames in
    let kernel : t.layout.kernel ≡ s.layout.kernel = marks_same t.layout.kernel s.layout.kernel (record {
      long = k.marks ∙ sym h.marks;
      each = λ i. (λ e. (h.kernel i).1 ((k.kernel i).0 e), λ e. (k.kernel i).1 ((h.kernel i).0 e));
    }) in
    let recovery : t.layout.recovery ≡ s.layout.recovery = k.recovery ∙ sym h.recovery in
    let early : t.layout.early ≡ s.layout.early = k.early ∙ sym h.early in
    let files : t.layout.files ≡ s.layout.files = k.files ∙ sym h.files in
    let procs : t.layout.procs ≡ s.layout.procs = k.procs ∙ sym h.procs in
    let threads : t.layout.threads ≡ s.layout.threads = k.threads ∙ sym h.threads in
    let pages : t.layout.pages ≡ s.layout.pages = k.pages ∙ sym h.pages in
    let trans : t.layout.trans ≡ s.layout.trans = k.trans ∙ sym h.trans in
    let locked : t.layout.locked ≡ s.layout.locked = k.locked ∙ sym h.locked in
    let twins : t.layout.twins ≡ s.layout.twins = k.twins ∙ sym h.twins in
    let guests : t.layout.guests ≡ s.layout.guests = k.guests ∙ sym h.guests in
    let lists : t.lists ≡ s.lists = k.lists ∙ sym h.lists in
    let go : t.go ≡ s.go = k.go ∙ sym h.go in
    let same : script_made (laid_out t.layout.version t.layout.cpus t.layout.frames t.layout.kernel t.layout.recovery t.layout.early t.layout.files t.layout.procs t.layout.threads t.layout.pages t.layout.trans t.layout.locked t.layout.twins t.layout.guests) t.lists t.go
    ≡ script_made (laid_out s.layout.version s.layout.cpus s.layout.frames s.layout.kernel s.layout.recovery s.layout.early s.layout.files s.layout.procs s.layout.threads s.layout.pages s.layout.trans s.layout.locked s.layout.twins s.layout.guests) s.lists s.go =
    rw (version, cpus, frames, kernel, recovery, early, files, procs, threads, pages, trans, locked, twins, guests, lists, go) refl in same

pub one_script : (bytes : List ℕ) (s t : Script) → Reads bytes s → Reads bytes t → t ≡ s
one_script bytes s t h k =
    let lines : h.lines ≡ k.lines = one_reading h.numbered k.numbered in
    let forms : h.script.forms ≡ k.script.forms = same_forms h.script.forms k.script.forms (sym h.script.each.same ∙ ap (map (λ (l : Numbered). l.read)) lines ∙ k.script.each.same) in
    collected_once k.script.forms s t (subst (λ fs. Collects fs s) forms h.script.collects) k.script.collects
