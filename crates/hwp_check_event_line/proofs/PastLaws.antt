-- What is kept of the records of frames, one by one.
use Rattle.std.proofs.Common.{◌≡◌, ◌⊎◌, ◌↔◌, inl, inr, ℕ, zero, suc, ◌+◌, ◌<◌, ◌≤◌, Bool, true, false, not, List, [], ◌∷◌, ◌++◌, Option, Some, None, IsTrue, length, slice_get, take, unwrap_or, true≢false, refl, sym, ap, ◌∙◌, subst, arith}
use Rattle.std.specs.Option.{option_map}
use Rattle.std.proofs.lemmas.Option.{none-some, same_Some, slice_get_past, slice_get_within}
use Rattle.hwp_law.specs.hwp_geom.declared.Cpu.{Cpu}
use Rattle.hwp_law.specs.hwp_geom.declared.Who.{Who}
use Rattle.hwp_law.specs.hwp_report_text.declared.FrameLine.{FrameLine}
use Rattle.hwp_law.specs.hwp_report_text.declared.MarkLine.{MarkLine}
use Rattle.hwp_law.specs.hwp_report_text.declared.Report.{Report}
use Rattle.hwp_law.specs.Lines.{marks_of}
use Rattle.hwp_law.specs.Records.{WasPoisoned, ends_poisoned}
use Rattle.hwp_check_event_line.specs.declared.nears.Nears.{Nears}
use Rattle.hwp_check_event_line.specs.declared.nears.MarkIndex.{MarkIndex}
use Rattle.hwp_check_event_line.specs.Nears.{AreNears, IsPast}

abbrev pub AreKept : Cpu → List FrameLine → List Nears → Type 0
AreKept cpu frames all = (frame : ℕ) (line : FrameLine) (nears : Nears) → slice_get frames frame ≡ Some line → slice_get all frame ≡ Some nears → AreNears cpu line.marks nears

snoc-get : (xs : List Nears) (y : Nears) (k : ℕ) (z : Nears) → slice_get (xs ++ y ∷ []) k ≡ Some z → (slice_get xs k ≡ Some z) ⊎ ((k ≡ length xs) × (y ≡ z))
snoc-get [] y zero z is = inr (refl, same_Some _ _ is)
snoc-get [] y (suc k) z is = absurd (none-some z is)
snoc-get (x ∷ xs) y zero z is = inl is
snoc-get (x ∷ xs) y (suc k) z is = elim (snoc-get xs y k z is) [
  | inl old ↦ inl old
  | inr new ↦ inr (ap suc new.0, new.1)
]

snoc-long : (xs : List Nears) (y : Nears) → length (xs ++ y ∷ []) ≡ suc (length xs)
snoc-long [] y = refl
snoc-long (x ∷ xs) y = ap suc (snoc-long xs y)

pub kept-more : (cpu : Cpu) (frames : List FrameLine) (all : List Nears) (i : ℕ) (line : FrameLine) (x : Nears) → length all ≡ i → AreKept cpu frames all → slice_get frames i ≡ Some line → AreNears cpu line.marks x → (length (all ++ x ∷ []) ≡ i + 1) × AreKept cpu frames (all ++ x ∷ [])
kept-more cpu frames all i line x long each there are = (
  (let more : length (all ++ x ∷ []) ≡ suc (length all) = snoc-long all x in let e : length (all ++ x ∷ []) ≡ i + 1 = omega (arith, more, long) in e),
  kept,
)
  where
    kept : AreKept cpu frames (all ++ x ∷ [])
    kept frame other nears at slot = elim (snoc-get all x frame nears slot) [
      | inl old ↦ each frame other nears at old
      | inr new ↦
          let same : line ≡ other = same_Some _ _ (sym there ∙ ap (slice_get frames) (sym (new.0 ∙ long)) ∙ at) in
          subst (λ (n : Nears). AreNears cpu other.marks n) new.1 (subst (λ (l : FrameLine). AreNears cpu l.marks x) same are)
    ]

get-some : (xs : List FrameLine) (i : ℕ) → i < length xs → (x : FrameLine) × (slice_get xs i ≡ Some x)
get-some [] i less = absurd (omega (arith, less))
get-some (x ∷ xs) zero less = (x, refl)
get-some (x ∷ xs) (suc i) less = get-some xs i (omega (arith, less))

get-none : (xs : List Nears) (i : ℕ) → slice_get xs i ≡ None → length xs ≤ i
get-none [] i is = omega arith
get-none (x ∷ xs) zero is = absurd (none-some x (sym is))
get-none (x ∷ xs) (suc i) is = let long : length xs ≤ i = get-none xs i is in omega (arith, long)

pub past-nears : (cpu : Cpu) (report : Report) (past : MarkIndex) (frame : ℕ) (nears : Nears) → IsPast cpu report.frames past → slice_get past.frames.items frame ≡ Some nears → AreNears cpu (marks_of report frame) nears
past-nears cpu report past frame nears is slot =
    let within : frame < length past.frames.items = slice_get_within past.frames.items frame nears slot in
    let some = get-some report.frames frame (subst (λ (n : ℕ). frame < n) is.many within) in
    subst (λ (l : List MarkLine). AreNears cpu l nears) (sym (ap (λ (o : Option FrameLine). unwrap_or (option_map (λ (l : FrameLine). l.marks) o) []) some.1)) (is.each frame some.0 nears some.1 slot)

none-was : (who : Who) (p : Bool) → IsTrue (not p) ↔ WasPoisoned [] who p
none-was who p = (forth p, λ was. back p was.count was.ended)
  where
    forth : (b : Bool) → IsTrue (not b) → WasPoisoned [] who b
    forth true is = absurd (true≢false (sym is))
    forth false is = record { count = 0; within = omega arith; earlier = λ place mark there early. absurd (none-some mark there); later = λ place mark there late. absurd (none-some mark there); ended = refl }

    back : (b : Bool) (count : ℕ) → ends_poisoned (take count []) ≡ b → IsTrue (not b)
    back true zero is = absurd (true≢false (sym is))
    back true (suc count) is = absurd (true≢false (sym is))
    back false count is = refl

pub past-none : (who : Who) (report : Report) (past : MarkIndex) (frame : ℕ) (p : Bool) → IsPast who.cpu report.frames past → slice_get past.frames.items frame ≡ None → IsTrue (not p) ↔ WasPoisoned (marks_of report frame) who p
past-none who report past frame p is none =
    let long : length report.frames ≤ frame = subst (λ (n : ℕ). n ≤ frame) is.many (get-none past.frames.items frame none) in
    subst (λ (l : List MarkLine). IsTrue (not p) ↔ WasPoisoned l who p) (sym (ap (λ (o : Option FrameLine). unwrap_or (option_map (λ (l : FrameLine). l.marks) o) []) (slice_get_past report.frames frame long))) (none-was who p)
