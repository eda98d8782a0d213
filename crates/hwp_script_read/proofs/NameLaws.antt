-- Why the names of a clean command are declared, and stay so.
use Rattle.std.proofs.Common.{ℕ, ◌≡◌, ◌≢◌, ◌≤◌, ◌++◌, List, [], ◌∷◌, length, Option, Some, None, zero, suc, ap, ◌∙◌, sym, refl, arith, ⊎_elim, inl, inr}
use Rattle.std.specs.Prelude.{slice_get, option_and_then, IsSomeAnd}
use Rattle.std.proofs.lemmas.List.{length_push}
use Rattle.std.proofs.lemmas.Bool.{cases_eq}
use Rattle.hwp_script_lines.specs.hwp_geom.Layout.{IsBacked}
use Rattle.hwp_script_lines.specs.hwp_geom.declared.Layout.{Layout}
use Rattle.hwp_script_lines.specs.hwp_geom.declared.Proc.{Proc}
use Rattle.hwp_script_lines.specs.hwp_geom.declared.PageKind.{PageKind}
use Rattle.hwp_script_lines.specs.hwp_geom.declared.PageKind.TheVariants as kinds
use Rattle.hwp_script_lines.specs.hwp_geom.declared.ThreadDecl.{ThreadDecl}
use Rattle.hwp_script_lines.specs.hwp_geom.declared.TransDecl.{TransDecl}
use Rattle.hwp_script_lines.specs.declared.ScriptLine.{ScriptLine}
use Rattle.hwp_script_lines.specs.declared.Backing.{Backing}
use Rattle.hwp_script_lines.specs.declared.Backing.TheVariants as backings
use Rattle.hwp_script_read.specs.Context.{cpus_in, frames_in, files_in, procs_in, threads_in, pages_in, trans_in, names_in, kind_of}
use Rattle.hwp_script_lines.specs.Grammar.{CommandFits}
use Rattle.hwp_script_read.specs.Reasons.{IsForeign, IsNoFilePage, IsNoAnonPage, IsUndeclared, IsElsewhere, IsBackingUndeclared}
use Rattle.hwp_script_lines.specs.hwp_script_words.Forks.{actor}
use Rattle.hwp_script_lines.specs.hwp_script_words.Valid.{IsThreadOf, IsAccess, IsFile, IsAnon, IsCommandOf}
use Rattle.hwp_script_lines.specs.declared.Command.{Command}
use Rattle.hwp_script_lines.specs.declared.Command.TheVariants as commands
use Rattle.hwp_script_read.proofs.ContextLaws.{onto, plus, more, pushed}

-- what is declared stays declared
pub record Grows (l m : Layout) : Type 0 where
  pub frames : l.frames ≤ m.frames
  pub files : l.files ≤ m.files
  pub procs : l.procs ≤ m.procs
  pub threads : (i : ℕ) (t : ThreadDecl) → slice_get l.threads i ≡ Some t → slice_get m.threads i ≡ Some t
  pub pages : (i : ℕ) (q : PageKind) → slice_get l.pages i ≡ Some q → slice_get m.pages i ≡ Some q
  pub trans : (i : ℕ) (v : TransDecl) → slice_get l.trans i ≡ Some v → slice_get m.trans i ≡ Some v
  pub page_count : length l.pages ≤ length m.pages
  pub trans_count : length l.trans ≤ length m.trans

-- what grows
pub plus_le : (o : Option ℕ) (n : ℕ) → n ≤ plus o n
plus_le None n = omega arith
plus_le (Some m) n = omega arith

pub more_le : {A : Type 0} (o : Option A) (n : ℕ) → n ≤ more o n
more_le None n = omega arith
more_le (Some x) n = omega arith

pub onto_le : {A : Type 0} (o : Option A) (xs : List A) → length xs ≤ length (onto o xs)
onto_le None xs = omega arith
onto_le (Some x) xs = rw length_push (omega arith)

slice_get-onto : {A : Type 0} (o : Option A) (xs : List A) (i : ℕ) (x : A) → slice_get xs i ≡ Some x → slice_get (onto o xs) i ≡ Some x
slice_get-onto None xs i x e = e
slice_get-onto (Some y) [] i x e = cc
slice_get-onto (Some y) (z ∷ zs) zero x e = e
slice_get-onto (Some y) (z ∷ zs) (suc i) x e = slice_get-onto (Some y) zs i x e

-- one more line declares no less
pub grows_line : (above : List ScriptLine) (f : ScriptLine) → Grows (names_in above) (names_in (above ++ f ∷ []))
grows_line above f =
    let p = pushed above f in record {
      frames = rw p.frames (plus_le _ (frames_in above));
      files = rw p.files (more_le _ (files_in above));
      procs = rw p.procs (more_le _ (procs_in above));
      threads = λ i t e. rw p.threads (slice_get-onto _ (threads_in above) i t e);
      pages = λ i q e. rw p.pages (slice_get-onto _ (pages_in above) i q e);
      trans = λ i v e. rw p.trans (slice_get-onto _ (trans_in above) i v e);
      page_count = rw p.pages (onto_le _ (pages_in above));
      trans_count = rw p.trans (onto_le _ (trans_in above));
    }

some_kept : {A : Type 0} (P Q : A → Type 0) (o p : Option A) → ((x : A) → o ≡ Some x → p ≡ Some x) → ((x : A) → P x → Q x)
    → IsSomeAnd o P → IsSomeAnd p Q
some_kept P Q None p k w h = absurd h
some_kept P Q (Some x) p k w h = rw (k x refl) (w x h)

access_kept : (l m : Layout) (c t v : ℕ) → Grows l m → IsAccess l c (record { 0 = t }) (record { 0 = v }) → IsAccess m c (record { 0 = t }) (record { 0 = v })
access_kept l m c t v g h =
    some_kept (λ (t : ThreadDecl). (t.cpu.0 ≡ c) × IsSomeAnd (slice_get l.trans v) (λ (w : TransDecl). w.process ≡ t.process))
    (λ (t : ThreadDecl). (t.cpu.0 ≡ c) × IsSomeAnd (slice_get m.trans v) (λ (w : TransDecl). w.process ≡ t.process)) (slice_get l.threads t) (slice_get m.threads t) (g.threads t)
    (λ x k. (k.0, some_kept (λ (w : TransDecl). w.process ≡ x.process) (λ (w : TransDecl). w.process ≡ x.process) (slice_get l.trans v) (slice_get m.trans v) (g.trans v) (λ w e. e) k.1)) h

thread_kept : (l m : Layout) (c t : ℕ) → Grows l m → IsThreadOf l c (record { 0 = t }) → IsThreadOf m c (record { 0 = t })
thread_kept l m c t g h =
    some_kept (λ (t : ThreadDecl). t.cpu.0 ≡ c) (λ (t : ThreadDecl). t.cpu.0 ≡ c) (slice_get l.threads t) (slice_get m.threads t) (g.threads t) (λ x e. e) h

page_kept : (l m : Layout) (P : PageKind → Type 0) (q : ℕ) → Grows l m → IsSomeAnd (slice_get l.pages q) P → IsSomeAnd (slice_get m.pages q) P
page_kept l m P q g h = some_kept P P (slice_get l.pages q) (slice_get m.pages q) (g.pages q) (λ x k. k) h

-- a command that fits what is declared fits what is declared later
pub command_kept : (l m : Layout) (c : ℕ) → Grows l m → (command : Command) → IsCommandOf l c command → IsCommandOf m c command
command_kept l m c g (commands.Load t v n) h = (access_kept l m c t.0 v.0 g h.0, h.1)
command_kept l m c g (commands.Fetch t v n) h = (access_kept l m c t.0 v.0 g h.0, h.1)
command_kept l m c g (commands.KLoad t v n) h = (access_kept l m c t.0 v.0 g h.0, h.1)
command_kept l m c g (commands.Store t v n x) h = (access_kept l m c t.0 v.0 g h.0, h.1)
command_kept l m c g (commands.Free v) h = omega (arith, g.trans_count)
command_kept l m c g (commands.Drop q) h = omega (arith, g.page_count)
command_kept l m c g (commands.Sync q) h = page_kept l m IsFile q.0 g h
command_kept l m c g (commands.Out q) h = page_kept l m IsAnon q.0 g h
command_kept l m c g (commands.Fsync n) h = omega (arith, g.files)
command_kept l m c g (commands.Open n) h = omega (arith, g.files)
command_kept l m c g (commands.Prctl t args) h = thread_kept l m c t.0 g h
command_kept l m c g (commands.Bad f n) h = (omega (arith, g.frames, h.0), h.1)
command_kept l m c g (commands.Weak f n) h = (omega (arith, g.frames, h.0), h.1)
command_kept l m c g (commands.Scrub a b) h = (h.0, omega (arith, g.frames, h.1))
command_kept l m c g (commands.Log s a n) h = tt
command_kept l m c g (commands.RaiseUser t r e) h = thread_kept l m c t.0 g h
command_kept l m c g (commands.RaiseKernel r e) h = tt
command_kept l m c g commands.RaiseNested h = tt
command_kept l m c g (commands.Inject f) h = omega (arith, g.frames)
command_kept l m c g (commands.Soft f) h = omega (arith, g.frames)
command_kept l m c g (commands.Unpoison f) h = omega (arith, g.frames)
command_kept l m c g (commands.Watch t w) h = h
command_kept l m c g (commands.Fork t p) h = (thread_kept l m c t.0 g h.0, omega (arith, g.procs, h.1))

-- a page that is backed stays so
pub backed_kept : (l m : Layout) → l.files ≤ m.files → (q : PageKind) → IsBacked l q → IsBacked m q
backed_kept l m e kinds.Anon h = tt
backed_kept l m e (kinds.File file fill) h = omega arith

pub backed : (above : List ScriptLine) (b : Backing) → (IsBackingUndeclared above b → ⊥) → IsBacked (names_in above) (kind_of b)
backed above backings.Anon h = tt
backed above (backings.File n x) h = omega arith

same_cpu : (t : ThreadDecl) (place c : ℕ) → place ≡ c → (t.cpu.0 ≢ place → ⊥) → t.cpu.0 ≡ c
same_cpu t place c e here = ⊎_elim (λ (k : t.cpu.0 ≡ place). k ∙ e) (λ (n : t.cpu.0 ≢ place). absurd (here n)) (cases_eq t.cpu.0 place)

own : (c place : ℕ) (thread : Option ThreadDecl) (trans : Option TransDecl) → place ≡ c → (IsForeign thread trans → ⊥)
    → (IsElsewhere (Some place) thread → ⊥)
    → IsSomeAnd thread (λ (t : ThreadDecl). (t.cpu.0 ≡ c) × IsSomeAnd trans (λ (v : TransDecl). v.process ≡ t.process))
own c place None trans e foreign here = absurd (foreign tt)
own c place (Some t) None e foreign here = absurd (foreign tt)
own c place (Some t) (Some v) e foreign here =
    let same : t.process.0 ≡ v.process.0 = ⊎_elim (λ (e : t.process.0 ≡ v.process.0). e) (λ (n : t.process.0 ≢ v.process.0). absurd (foreign n)) (cases_eq t.process.0 v.process.0) in
    (same_cpu t place c e here, let P : ℕ → Proc = λ n. record { 0 = n } in sym (ap P same))

thread_here : (threads : List ThreadDecl) (t c place : ℕ) → place ≡ c → (length threads ≤ t → ⊥) → (IsElsewhere (Some place) (slice_get threads t) → ⊥)
    → IsSomeAnd (slice_get threads t) (λ (t : ThreadDecl). t.cpu.0 ≡ c)
thread_here [] t c place e named here = absurd (named (omega arith))
thread_here (x ∷ xs) zero c place e named here = same_cpu x place c e here
thread_here (x ∷ xs) (suc t) c place e named here = thread_here xs t c place e (λ l. named (omega arith)) here

file_page : (q : Option PageKind) → (IsNoFilePage q → ⊥) → IsSomeAnd q IsFile
file_page None h = absurd (h tt)
file_page (Some kinds.Anon) h = absurd (h tt)
file_page (Some (kinds.File file fill)) h = tt

pub anon_page : (q : Option PageKind) → (IsNoAnonPage q → ⊥) → IsSomeAnd q IsAnon
anon_page None h = absurd (h tt)
anon_page (Some kinds.Anon) h = tt
anon_page (Some (kinds.File file fill)) h = absurd (h tt)

-- a clean command of processor c's list is one of that processor
pub command_valid : (above : List ScriptLine) (x : Command) (c place : ℕ) → place ≡ c → CommandFits x → (IsUndeclared above x → ⊥)
    → (IsElsewhere (Some place) (option_and_then (λ t. slice_get (threads_in above) t) (actor x)) → ⊥) → IsCommandOf (names_in above) c x
command_valid above (commands.Load t v l) c place e fits named here = (own c place _ _ e named here, fits.2)
command_valid above (commands.Fetch t v l) c place e fits named here = (own c place _ _ e named here, fits.2)
command_valid above (commands.KLoad t v l) c place e fits named here = (own c place _ _ e named here, fits.2)
command_valid above (commands.Store t v l x) c place e fits named here = (own c place _ _ e named here, fits.0.2)
command_valid above (commands.Free v) c place e fits named here = omega arith
command_valid above (commands.Drop q) c place e fits named here = omega arith
command_valid above (commands.Sync q) c place e fits named here = file_page _ named
command_valid above (commands.Out q) c place e fits named here = anon_page _ named
command_valid above (commands.Fsync n) c place e fits named here = omega arith
command_valid above (commands.Open n) c place e fits named here = omega arith
command_valid above (commands.Prctl t args) c place e fits named here = thread_here (threads_in above) t.0 c place e named here
command_valid above (commands.Bad f l) c place e fits named here = (omega arith, fits.1)
command_valid above (commands.Weak f l) c place e fits named here = (omega arith, fits.1)
command_valid above (commands.Scrub a b) c place e fits named here = let none : frames_in above ≤ b.0 → ⊥ = λ k. named (inr k) in (fits.0, omega arith)
command_valid above (commands.Log s a m) c place e fits named here = tt
command_valid above (commands.RaiseUser t r x) c place e fits named here = thread_here (threads_in above) t.0 c place e named here
command_valid above (commands.RaiseKernel r x) c place e fits named here = tt
command_valid above commands.RaiseNested c place e fits named here = tt
command_valid above (commands.Inject f) c place e fits named here = omega arith
command_valid above (commands.Soft f) c place e fits named here = omega arith
command_valid above (commands.Unpoison f) c place e fits named here = omega arith
command_valid above (commands.Watch t w) c place e fits named here = fits
command_valid above (commands.Fork t p) c place e fits named here =
    let declared : procs_in above ≤ p.0 → ⊥ = λ k. named (inr k) in (thread_here (threads_in above) t.0 c place e (λ k. named (inl k)) here, omega arith)
