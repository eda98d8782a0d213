-- What one more line adds to what the lines declare.
use Rattle.std.proofs.Common.{ℕ, ◌≡◌, ◌+◌, ◌++◌, Bool, true, false, max, List, [], ◌∷◌, length, Option, Some, None, ap, ◌∙◌, refl, arith}
use Rattle.std.specs.Prelude.{sum, fold, filter_map, flat_map, slice_get}
use Rattle.std.proofs.lemmas.List.{append-nil, length_push, length-set}
use Rattle.std.proofs.lemmas.List.Elements.{filter_map-append}
use Rattle.std.proofs.lemmas.List.Sums.{fold-append}
use Rattle.std.proofs.lemmas.Grind.{flat_map-append}
use Rattle.hwp_script_read.specs.Context.{version_after, locked_of, version_in, locked_in, cpus_of, frames_of, kernel_of, recovery_of, early_of, file_of, proc_of, thread_of, page_of, trans_of, cpu_of, command_of, words_of, cpus_in, frames_in, kernel_in, recovery_in, early_in, files_in, procs_in, threads_in, pages_in, trans_in, twins_after, twins_in, guests_after, guests_in, names_in, slot_of, lists_in, commands_in, go_in, place_in, place_after, group, highest}
use Rattle.hwp_script_read.specs.Sums.{Sums, names_of}
use Rattle.hwp_script_read.specs.declared.context.Summary.{Summary}
use Rattle.hwp_script_lines.specs.hwp_geom.declared.VSlot.{VSlot}
use Rattle.hwp_script_lines.specs.hwp_geom.declared.Version.TheVariants as versions
use Rattle.hwp_script_lines.specs.declared.ScriptLine.{ScriptLine}
use Rattle.hwp_script_lines.specs.declared.ScriptLine.TheVariants as forms

-- the list with the item behind it, if there is one
abbrev pub onto : {A : Type 0} → Option A → List A → List A
onto None xs = xs
onto (Some x) xs = xs ++ x ∷ []

-- the number and the other, if there is one
abbrev pub plus : Option ℕ → ℕ → ℕ
plus None n = n
plus (Some m) n = n + m

-- one more, if there is something
abbrev pub more : {A : Type 0} → Option A → ℕ → ℕ
more None n = n
more (Some x) n = n + 1

-- the first of the two that is something
abbrev pub either : {A : Type 0} → Option A → Option A → Option A
either p None = p
either None (Some x) = Some x
either (Some y) (Some x) = Some y

filter_map-push : {A B : Type 0} (h : A → Option B) (xs : List A) (x : A) (o : Option B) → h x ≡ o
    → filter_map h (xs ++ x ∷ []) ≡ onto o (filter_map h xs)
filter_map-push h xs x None e = filter_map-append h xs (x ∷ []) ∙ rw e (append-nil (filter_map h xs))
filter_map-push h xs x (Some y) e = filter_map-append h xs (x ∷ []) ∙ rw e refl

sum-onto : (o : Option ℕ) (xs : List ℕ) → sum (onto o xs) ≡ plus o (sum xs)
sum-onto None xs = refl
sum-onto (Some x) xs = fold-append (λ a b. a + b) 0 xs (x ∷ [])

length-onto : {A : Type 0} (o : Option A) (xs : List A) → length (onto o xs) ≡ more o (length xs)
length-onto None xs = refl
length-onto (Some x) xs = length_push xs x

first-onto : {A : Type 0} (o : Option A) (xs : List A) → slice_get (onto o xs) 0 ≡ either (slice_get xs 0) o
first-onto None xs = refl
first-onto (Some y) [] = refl
first-onto (Some y) (x ∷ xs) = refl

highest-push : (above : List ScriptLine) (f : ScriptLine) → highest (above ++ f ∷ []) ≡ max (highest above) (group f)
highest-push [] f = omega arith
highest-push (g ∷ above) f = let e = highest-push above f in omega arith

go-push : (above : List ScriptLine) (f : ScriptLine) → go_in (above ++ f ∷ []) ≡ go_in above ++ words_of f
go-push above f = flat_map-append words_of above (f ∷ []) ∙ ap (λ t. flat_map words_of above ++ t) (append-nil (words_of f))

-- what the lines declare with one more
pub record IsPushed (above : List ScriptLine) (f : ScriptLine) : Type 0 where
  pub group : highest (above ++ f ∷ []) ≡ max (highest above) (group f)
  pub version : version_in (above ++ f ∷ []) ≡ version_after (version_in above) f
  pub cpus : cpus_in (above ++ f ∷ []) ≡ plus (cpus_of f) (cpus_in above)
  pub frames : frames_in (above ++ f ∷ []) ≡ plus (frames_of f) (frames_in above)
  pub kernel : kernel_in (above ++ f ∷ []) ≡ onto (kernel_of f) (kernel_in above)
  pub recovery : recovery_in (above ++ f ∷ []) ≡ either (recovery_in above) (recovery_of f)
  pub early : early_in (above ++ f ∷ []) ≡ either (early_in above) (early_of f)
  pub files : files_in (above ++ f ∷ []) ≡ more (file_of f) (files_in above)
  pub procs : procs_in (above ++ f ∷ []) ≡ more (proc_of f) (procs_in above)
  pub threads : threads_in (above ++ f ∷ []) ≡ onto (thread_of f) (threads_in above)
  pub pages : pages_in (above ++ f ∷ []) ≡ onto (page_of f) (pages_in above)
  pub trans : trans_in (above ++ f ∷ []) ≡ onto (trans_of f) (trans_in above)
  pub locked : locked_in (above ++ f ∷ []) ≡ onto (locked_of f) (locked_in above)
  pub twins : twins_in (above ++ f ∷ []) ≡ twins_after (twins_in above) f
  pub guests : guests_in (above ++ f ∷ []) ≡ guests_after (guests_in above) f
  pub lists : lists_in (above ++ f ∷ []) ≡ onto (cpu_of f) (lists_in above)
  pub place : place_in (above ++ f ∷ []) ≡ place_after (place_in above) f
  pub commands : commands_in (above ++ f ∷ []) ≡ more (command_of f) (commands_in above)
  pub go : go_in (above ++ f ∷ []) ≡ go_in above ++ words_of f

pub pushed : (above : List ScriptLine) (f : ScriptLine) → IsPushed above f
pushed above f = record {
  group = highest-push above f;
  version = fold-append version_after versions.One above (f ∷ []);
  cpus = ap sum (filter_map-push cpus_of above f _ refl) ∙ sum-onto (cpus_of f) (filter_map cpus_of above);
  frames = ap sum (filter_map-push frames_of above f _ refl) ∙ sum-onto (frames_of f) (filter_map frames_of above);
  kernel = filter_map-push kernel_of above f _ refl;
  recovery = ap (λ xs. slice_get xs 0) (filter_map-push recovery_of above f _ refl) ∙ first-onto (recovery_of f) (filter_map recovery_of above);
  early = ap (λ xs. slice_get xs 0) (filter_map-push early_of above f _ refl) ∙ first-onto (early_of f) (filter_map early_of above);
  files = ap length (filter_map-push file_of above f _ refl) ∙ length-onto (file_of f) (filter_map file_of above);
  procs = ap length (filter_map-push proc_of above f _ refl) ∙ length-onto (proc_of f) (filter_map proc_of above);
  threads = filter_map-push thread_of above f _ refl;
  pages = filter_map-push page_of above f _ refl;
  trans = filter_map-push trans_of above f _ refl;
  locked = filter_map-push locked_of above f _ refl;
  twins = fold-append twins_after [] above (f ∷ []);
  guests = fold-append guests_after [] above (f ∷ []);
  lists = filter_map-push cpu_of above f _ refl;
  place = fold-append place_after None above (f ∷ []);
  commands = ap length (filter_map-push command_of above f _ refl) ∙ length-onto (command_of f) (filter_map command_of above);
  go = go-push above f;
}

-- each translation has a place among the twins
twins-many : (ts : List (Option VSlot)) (fs : List ScriptLine) → length (fold twins_after ts fs) ≡ length ts + length (filter_map trans_of fs)
twins-many ts [] = omega arith
twins-many ts (forms.Trans v p q ∷ fs) = omega (arith, twins-many (ts ++ None ∷ []) fs, length_push ts None)
twins-many ts (forms.Cow v w ∷ fs) = omega (arith, twins-many (twins_after ts (forms.Cow v w)) fs, length-set ts v (Some (slot_of w)))
twins-many ts (f ∷ fs) = twins-many ts fs

pub twins-long : (fs : List ScriptLine) → length (twins_in fs) ≡ length (trans_in fs)
twins-long fs = omega (arith, twins-many [] fs)

-- each process has a place among the guests
guests-many : (gs : List Bool) (fs : List ScriptLine) → length (fold guests_after gs fs) ≡ length gs + length (filter_map proc_of fs)
guests-many gs [] = omega arith
guests-many gs (forms.Proc p ∷ fs) = omega (arith, guests-many (gs ++ false ∷ []) fs, length_push gs false)
guests-many gs (forms.Guest p ∷ fs) = omega (arith, guests-many (guests_after gs (forms.Guest p)) fs, length-set gs p true)
guests-many gs (f ∷ fs) = guests-many gs fs

pub guests-long : (fs : List ScriptLine) → length (guests_in fs) ≡ procs_in fs
guests-long fs = omega (arith, guests-many [] fs)

-- a summary keeps the names that the lines declare
pub names-kept : {above : List ScriptLine} {s : Summary} → Sums above s → names_of s ≡ names_in above
names-kept {above} {s} h = rw (h.version, h.cpus, h.frames, h.files, h.procs, h.threads, h.pages, h.trans, h.locked, h.twins, h.guests) refl
