-- What one more clean line does to a summary.
use Rattle.std.proofs.Common.{ℕ, ◌≡◌, ◌≢◌, ◌<◌, ◌≤◌, ◌++◌, Bool, true, false, List, [], ◌∷◌, length, set, replicate, Option, Some, None, ap, map, ◌∙◌, sym, refl, arith, zero, suc, ⊎_elim}
use Rattle.std.specs.Prelude.{◌↔◌, slice_get, Contains, IfSome}
use Rattle.std.specs.List.{range_with_len}
use Rattle.std.proofs.lemmas.List.Elements.{Contains-push, Contains-append_left, Contains-push_cases}
use Rattle.std.proofs.lemmas.List.FromFn.{length-map-range_with_len}
use Rattle.std.proofs.lemmas.Bool.{cases_eq}
use Rattle.hwp_script_read.specs.Context.{version_after, locked_of, cpus_of, frames_of, kernel_of, recovery_of, early_of, file_of, proc_of, thread_of, page_of, trans_of, cpu_of, command_of, words_of, place_after, twins_after, guests_after, cpus_in, frames_in, kernel_in, group as group_of, highest}
use Rattle.hwp_script_read.specs.Collects.{commands_of}
use Rattle.hwp_script_read.specs.Sums.{Sums}
use Rattle.hwp_script_read.specs.declared.context.Summary.{Summary}
use Rattle.hwp_script_lines.specs.declared.ScriptLine.{ScriptLine}
use Rattle.hwp_script_read.proofs.CollectLaws.{lists_after, lists_step}
use Rattle.hwp_script_read.proofs.ContextLaws.{onto, plus, more, either, pushed}

-- the marks are those of these frames of the kernel
pub record AreMarks (marks : List Bool) (frames : List ℕ) : Type 0 where
  pub each : (frame : ℕ) → (slice_get marks frame ≡ Some true) ↔ Contains frames frame

-- the summary after a line
pub next_sums : (above : List ScriptLine) (f : ScriptLine) (s t : Summary) → Sums above s
    → highest above ≤ group_of f → t.group ≡ group_of f → t.version ≡ version_after s.version f → t.locked ≡ onto (locked_of f) s.locked → t.cpus ≡ plus (cpus_of f) s.cpus → t.frames ≡ plus (frames_of f) s.frames
    → length t.kernel.items ≡ plus (frames_of f) (length s.kernel.items) → AreMarks t.kernel.items (onto (kernel_of f) (kernel_in above))
    → t.recovery ≡ either s.recovery (recovery_of f) → t.early ≡ either s.early (early_of f) → t.files ≡ more (file_of f) s.files
    → t.procs ≡ more (proc_of f) s.procs → t.threads ≡ onto (thread_of f) s.threads → t.pages ≡ onto (page_of f) s.pages
    → t.trans ≡ onto (trans_of f) s.trans → t.begun ≡ onto (cpu_of f) s.begun → t.place ≡ place_after s.place f
    → t.commands ≡ more (command_of f) s.commands → t.go ≡ s.go ++ words_of f → IfSome t.place (λ (p : ℕ). p < t.cpus)
    → t.lists.items ≡ lists_after f s.place t.cpus s.lists.items → t.twins.items ≡ twins_after s.twins.items f
    → t.guests.items ≡ guests_after s.guests.items f → Sums (above ++ f ∷ []) t
next_sums above f s t h late group version locked cpus frames marks kernel recovery early files procs threads pages trans begun place commands go within lists twins guests =
    let p = pushed above f in
    let many : t.cpus ≡ cpus_in (above ++ f ∷ []) = cpus ∙ ap (plus (cpus_of f)) h.cpus ∙ sym p.cpus in
    record {
      group = omega (arith, p.group);
      version = version ∙ ap (λ at. version_after at f) h.version ∙ sym p.version;
      cpus = many;
      frames = frames ∙ ap (plus (frames_of f)) h.frames ∙ sym p.frames;
      marks = marks ∙ ap (plus (frames_of f)) h.marks ∙ sym p.frames;
      kernel = λ frame. rw p.kernel (kernel.each frame);
      recovery = recovery ∙ ap (λ o. either o (recovery_of f)) h.recovery ∙ sym p.recovery;
      early = early ∙ ap (λ o. either o (early_of f)) h.early ∙ sym p.early;
      files = files ∙ ap (more (file_of f)) h.files ∙ sym p.files;
      procs = procs ∙ ap (more (proc_of f)) h.procs ∙ sym p.procs;
      threads = threads ∙ ap (onto (thread_of f)) h.threads ∙ sym p.threads;
      pages = pages ∙ ap (onto (page_of f)) h.pages ∙ sym p.pages;
      trans = trans ∙ ap (onto (trans_of f)) h.trans ∙ sym p.trans;
      locked = locked ∙ ap (onto (locked_of f)) h.locked ∙ sym p.locked;
      twins = twins ∙ ap (λ ts. twins_after ts f) h.twins ∙ sym p.twins;
      guests = guests ∙ ap (λ gs. guests_after gs f) h.guests ∙ sym p.guests;
      begun = begun ∙ ap (onto (cpu_of f)) h.begun ∙ sym p.lists;
      place = place ∙ ap (λ at. place_after at f) h.place ∙ sym p.place;
      within = within;
      commands = commands ∙ ap (more (command_of f)) h.commands ∙ sym p.commands;
      lists = lists ∙ lists_step above f s.place s.lists.items (cpus_in above) t.cpus late (sym h.place) (rw h.cpus at h.within) h.lists (cpus ∙ ap (plus (cpus_of f)) h.cpus)
          ∙ ap (λ n. map (commands_of (above ++ f ∷ [])) (range_with_len 0 n)) many;
      go = go ∙ ap (λ t. t ++ words_of f) h.go ∙ sym p.go;
    }

pub within_more : (o : Option ℕ) (a b : ℕ) → a ≤ b → IfSome o (λ (p : ℕ). p < a) → IfSome o (λ (p : ℕ). p < b)
within_more None a b l h = tt
within_more (Some p) a b l h = omega (arith, l, h)

-- each processor has a list
pub many_lists : {above : List ScriptLine} {s : Summary} → Sums above s → length s.lists.items ≡ s.cpus
many_lists {above} {s} h = ap length h.lists ∙ length-map-range_with_len (commands_of above) 0 (cpus_in above) ∙ sym h.cpus

-- a line that leaves the marks alone
pub same_marks : {above : List ScriptLine} {s : Summary} → Sums above s → AreMarks s.kernel.items (kernel_in above)
same_marks {above} {s} h = record { each = h.kernel }

none_marked : (n frame : ℕ) → slice_get (replicate n false) frame ≡ Some true → ⊥
none_marked zero frame e = cc
none_marked (suc n) zero e = cc
none_marked (suc n) (suc frame) e = none_marked n frame e

none_in_none : (xs : List Bool) (frame : ℕ) → length xs ≡ 0 → slice_get xs frame ≡ Some true → ⊥
none_in_none [] frame l e = cc
none_in_none (x ∷ xs) frame l e = absurd (omega arith)

-- the line of the frames: no frame is the kernel's
pub no_marks : {above : List ScriptLine} {s : Summary} (n : ℕ) → Sums above s → frames_in above ≡ 0 → AreMarks (replicate n false) (kernel_in above)
no_marks {above} {s} n h none = record {
  each = λ frame. (
    λ e. absurd (none_marked n frame e),
    λ has. absurd (none_in_none s.kernel.items frame (h.marks ∙ none) ((h.kernel frame).1 has)),
  );
}

set_same : (xs : List Bool) (i : ℕ) (b : Bool) → i < length xs → slice_get (set xs i b) i ≡ Some b
set_same [] i b l = absurd (omega arith)
set_same (x ∷ xs) zero b l = refl
set_same (x ∷ xs) (suc i) b l = set_same xs i b (omega arith)

set_other : (xs : List Bool) (i j : ℕ) (b : Bool) → j ≢ i → slice_get (set xs i b) j ≡ slice_get xs j
set_other [] i j b n = refl
set_other (x ∷ xs) zero zero b n = absurd (n refl)
set_other (x ∷ xs) zero (suc j) b n = refl
set_other (x ∷ xs) (suc i) zero b n = refl
set_other (x ∷ xs) (suc i) (suc j) b n = set_other xs i j b (λ e. n (ap suc e))

-- a line that gives one more frame to the kernel
pub one_mark : {above : List ScriptLine} {s : Summary} (f : ℕ) → Sums above s → f < frames_in above
    → AreMarks (set s.kernel.items f true) (kernel_in above ++ f ∷ [])
one_mark {above} {s} f h l =
    let within : f < length s.kernel.items = omega (arith, h.marks) in record {
      each = λ frame. ⊎_elim
          (λ (e : frame ≡ f). (λ m. rw e (Contains-push (kernel_in above) f), λ has. rw e (set_same s.kernel.items f true within)))
          (λ (n : frame ≢ f). (
            λ m. Contains-append_left (kernel_in above) (f ∷ []) frame ((h.kernel frame).0 (sym (set_other s.kernel.items f frame true n) ∙ m)),
            λ has. set_other s.kernel.items f frame true n ∙ (h.kernel frame).1 (⊎_elim (λ (old : Contains (kernel_in above) frame). old)
                (λ (e : f ≡ frame). absurd (n (sym e))) (Contains-push_cases (kernel_in above) f frame has)),
          ))
          (cases_eq frame f);
    }
