-- The processors' lists that are put behind the declarations: each line is clean.
use Rattle.std.proofs.Common.{ℕ, ◌≡◌, ◌<◌, ◌≤◌, ◌+◌, ◌++◌, ◌==◌, cond, if◌then◌else◌, Bool, true, false, inl, inr, List, [], ◌∷◌, length, map, take, Option, Some, None, zero, suc, ap, subst, ◌∙◌, sym, refl, arith}
use Rattle.std.specs.Prelude.{All, Contains, slice_get, option_and_then, option_to_list, IsSomeAnd, sum_by}
use Rattle.std.specs.List.{range_with_len}
use Rattle.std.proofs.lemmas.List.{append-nil, append_assoc, take_at}
use Rattle.std.proofs.lemmas.Option.{none-some, same_Some}
use Rattle.std.proofs.lemmas.List.Elements.{All-head, All-tail, All-push, All-weaker, All-contains, Contains-append_right}
use Rattle.std.proofs.lemmas.List.Sums.{sum_by-cons}
use Rattle.hwp_script_read.specs.hwp_geom.Layout.{IsSound}
use Rattle.hwp_script_read.specs.hwp_geom.Limits.{line_limit, file_limit, process_limit, thread_limit, command_limit, cpu_limit, frame_limit, page_limit, translation_limit, cpu_limit_of, frame_limit_of, page_limit_of, translation_limit_of}
use Rattle.hwp_script_read.specs.hwp_geom.declared.Version.TheVariants as versions
use Rattle.hwp_script_read.specs.hwp_geom.declared.Layout.{Layout}
use Rattle.hwp_script_read.specs.hwp_geom.declared.Thread.{Thread}
use Rattle.hwp_script_read.specs.hwp_geom.declared.VSlot.{VSlot}
use Rattle.hwp_script_read.specs.hwp_geom.declared.ThreadDecl.{ThreadDecl}
use Rattle.hwp_script_read.specs.hwp_geom.declared.TransDecl.{TransDecl}
use Rattle.hwp_script_read.specs.hwp_geom.declared.PageKind.{PageKind}
use Rattle.hwp_script_read.specs.hwp_geom.declared.PageKind.TheVariants as kinds
use Rattle.hwp_script_read.specs.hwp_script_lines.Grammar.{CommandFits, IsAccessWithin}
use Rattle.hwp_script_read.specs.hwp_script_lines.declared.ScriptLine.{ScriptLine}
use Rattle.hwp_script_read.specs.hwp_script_lines.declared.ScriptLine.TheVariants as forms
use Rattle.hwp_script_read.specs.hwp_script_lines.declared.Command.{Command}
use Rattle.hwp_script_read.specs.hwp_script_lines.declared.Command.TheVariants as commands
use Rattle.hwp_script_read.specs.Context.{version_in, cpus_in, frames_in, files_in, procs_in, threads_in, pages_in, locked_in, trans_in, twins_in, guests_in, names_in, lists_in, commands_in, place_in, is_again}
use Rattle.hwp_script_read.specs.Collects.{command_at, commands_from, commands_of}
use Rattle.hwp_script_read.specs.hwp_script_words.Forks.{actor, is_wrong_fork, names_twin}
use Rattle.hwp_script_read.specs.Reasons.{IsClean, IsBeyond, IsForeign, IsNoFilePage, IsNoAnonPage, IsUndeclared, IsElsewhere}
use Rattle.hwp_script_read.specs.hwp_script_words.Commands.{IsNewer}
use Rattle.hwp_script_read.specs.hwp_script_words.Valid.{IsThreadOf, IsAccess, IsFile, IsAnon, IsCommandOf, AreLists, HasWords, NamesNoTwin, AreForksFit}
use Rattle.hwp_script_read.proofs.CleanLaws.{cpu_most}
use Rattle.hwp_script_read.proofs.CollectLaws.{commands_of-push, no_command, same, other}
use Rattle.hwp_script_read.proofs.TwinLaws.{bare, clash}
use Rattle.hwp_script_read.proofs.ForkLaws.{bare_fork}
use Rattle.hwp_script_read.proofs.TallyLaws.{weight, total, lines_weight, one_fork, lines-push, never_forked}
use Rattle.hwp_script.specs.Text.{list_forms, numbered}
use Rattle.hwp_script.proofs.CleanPut.{put_cpu, put_command}
use Rattle.hwp_script.proofs.CowsPut.{is_anon_page}
use Rattle.hwp_script.proofs.Sections.{Known, IsMade, made_push, made_then, made_nil, placed, plain}

-- the declarations above are those of a sound layout
pub record IsLaidOut (k : Known) (l : Layout) : Type 0 where
  pub sound : IsSound l
  pub version : k.version ≡ l.version
  pub cpus : k.cpus ≡ l.cpus
  pub frames : k.frames ≡ l.frames
  pub files : k.files ≡ l.files
  pub procs : k.procs ≡ l.procs
  pub threads : k.threads ≡ l.threads
  pub pages : k.pages ≡ l.pages
  pub trans : k.trans ≡ l.trans
  pub locked : k.locked ≡ l.locked
  pub twins : k.twins ≡ l.twins
  pub guests : k.guests ≡ l.guests

pub record AreAbove (fs : List ScriptLine) (l : Layout) : Type 0 where
  pub version : version_in fs ≡ l.version
  pub cpus : cpus_in fs ≡ l.cpus
  pub frames : frames_in fs ≡ l.frames
  pub files : files_in fs ≡ l.files
  pub procs : procs_in fs ≡ l.procs
  pub threads : threads_in fs ≡ l.threads
  pub pages : pages_in fs ≡ l.pages
  pub trans : trans_in fs ≡ l.trans
  pub locked : locked_in fs ≡ l.locked
  pub twins : twins_in fs ≡ l.twins
  pub guests : guests_in fs ≡ l.guests

above_made : {fs : List ScriptLine} {g : ℕ} {k : Known} {l : Layout} → IsMade fs g k → IsLaidOut k l → AreAbove fs l
above_made {fs} {g} {k} {l} h laid = record {
  version = ap (λ (x : Known). x.version) h.same ∙ laid.version;
  cpus = ap (λ (x : Known). x.cpus) h.same ∙ laid.cpus;
  frames = ap (λ (x : Known). x.frames) h.same ∙ laid.frames;
  files = ap (λ (x : Known). x.files) h.same ∙ laid.files;
  procs = ap (λ (x : Known). x.procs) h.same ∙ laid.procs;
  threads = ap (λ (x : Known). x.threads) h.same ∙ laid.threads;
  pages = ap (λ (x : Known). x.pages) h.same ∙ laid.pages;
  trans = ap (λ (x : Known). x.trans) h.same ∙ laid.trans;
  locked = ap (λ (x : Known). x.locked) h.same ∙ laid.locked;
  twins = ap (λ (x : Known). x.twins) h.same ∙ laid.twins;
  guests = ap (λ (x : Known). x.guests) h.same ∙ laid.guests;
}

-- the names that they declare are those of the layout
names_above : {fs : List ScriptLine} {l : Layout} → AreAbove fs l → names_in fs ≡ bare l
names_above {fs} {l} a = rw (a.version, a.cpus, a.frames, a.files, a.procs, a.threads, a.pages, a.trans, a.locked, a.twins, a.guests) refl

-- what stands in a list stands below its length
some_within : {A : Type 0} (P : A → Type 0) (xs : List A) (i : ℕ) → IsSomeAnd (slice_get xs i) P → i < length xs
some_within P [] i h = absurd h
some_within P (x ∷ xs) zero h = omega arith
some_within P (x ∷ xs) (suc i) h = omega (arith, some_within P xs i h)

some_inside : {A : Type 0} (P : A → Type 0) (Q : Type 0) (o : Option A) → ((x : A) → P x → Q) → IsSomeAnd o P → Q
some_inside P Q None k h = absurd h
some_inside P Q (Some x) k h = k x h

abbrev IsAccessBy : Layout → ℕ → VSlot → ThreadDecl → Type 0
IsAccessBy l c v t = (t.cpu.0 ≡ c) × IsSomeAnd (slice_get l.trans v.0) (λ (w : TransDecl). w.process ≡ t.process)

abbrev IsOn : ℕ → ThreadDecl → Type 0
IsOn c t = t.cpu.0 ≡ c

below : (n m limit : ℕ) → n < m → m ≤ limit → n < limit
below n m limit h k = omega arith

-- the names are declared
not_foreign : (c : ℕ) (o : Option ThreadDecl) (p : Option TransDecl)
    → IsSomeAnd o (λ (t : ThreadDecl). (t.cpu.0 ≡ c) × IsSomeAnd p (λ (w : TransDecl). w.process ≡ t.process)) → IsForeign o p → ⊥
not_foreign c None p h e = absurd h
not_foreign c (Some t) None h e = absurd h.1
not_foreign c (Some t) (Some w) h e = e (sym (ap (λ q. q.0) h.1))

access_named : {fs : List ScriptLine} {l : Layout} (c : ℕ) (t : Thread) (v : VSlot) → AreAbove fs l → IsAccess l c t v
    → IsForeign (slice_get (threads_in fs) t.0) (slice_get (trans_in fs) v.0) → ⊥
access_named {fs} {l} c t v a h e = not_foreign c (slice_get l.threads t.0) (slice_get l.trans v.0) h (rw (a.threads, a.trans) at e)

thread_named : {fs : List ScriptLine} {l : Layout} (c : ℕ) (t : Thread) → AreAbove fs l → IsThreadOf l c t → length (threads_in fs) ≤ t.0 → ⊥
thread_named {fs} {l} c t a h e = omega (arith, some_within (IsOn c) l.threads t.0 h, ap length a.threads, e)

is_file_page : (o : Option PageKind) → IsSomeAnd o IsFile → IsNoFilePage o → ⊥
is_file_page None h e = absurd h
is_file_page (Some kinds.Anon) h e = absurd h
is_file_page (Some (kinds.File n x)) h e = e

frame_named : {fs : List ScriptLine} {l : Layout} (f : ℕ) → AreAbove fs l → f < l.frames → frames_in fs ≤ f → ⊥
frame_named {fs} {l} f a h e = omega (arith, a.frames, h, e)

not_undeclared : {fs : List ScriptLine} {l : Layout} (c : ℕ) (cmd : Command) → AreAbove fs l → IsCommandOf l c cmd → IsUndeclared fs cmd → ⊥
not_undeclared c (commands.Load t v x) a h e = access_named c t v a h.0 e
not_undeclared c (commands.Fetch t v x) a h e = access_named c t v a h.0 e
not_undeclared c (commands.KLoad t v x) a h e = access_named c t v a h.0 e
not_undeclared c (commands.Store t v x w) a h e = access_named c t v a h.0 e
not_undeclared c (commands.Free v) a h e = omega (arith, ap length a.trans, h, e)
not_undeclared c (commands.Drop q) a h e = omega (arith, ap length a.pages, h, e)
not_undeclared {fs} {l} c (commands.Sync q) a h e = is_file_page (slice_get l.pages q.0) h (rw a.pages at e)
not_undeclared {fs} {l} c (commands.Out q) a h e = is_anon_page (slice_get l.pages q.0) h (rw a.pages at e)
not_undeclared c (commands.Fsync n) a h e = omega (arith, a.files, h, e)
not_undeclared c (commands.Open n) a h e = omega (arith, a.files, h, e)
not_undeclared c (commands.Prctl t args) a h e = thread_named c t a h e
not_undeclared c (commands.Bad f x) a h e = frame_named f.0 a h.0 e
not_undeclared c (commands.Weak f x) a h e = frame_named f.0 a h.0 e
not_undeclared c (commands.Scrub x y) a h (inl e) = omega (arith, a.frames, h.0, h.1, e)
not_undeclared c (commands.Scrub x y) a h (inr e) = frame_named y.0 a h.1 e
not_undeclared c (commands.Log status addr misc) a h e = e
not_undeclared c (commands.RaiseUser t r x) a h e = thread_named c t a h e
not_undeclared c (commands.RaiseKernel r x) a h e = e
not_undeclared c commands.RaiseNested a h e = e
not_undeclared c (commands.Inject f) a h e = frame_named f.0 a h e
not_undeclared c (commands.Soft f) a h e = frame_named f.0 a h e
not_undeclared c (commands.Unpoison f) a h e = frame_named f.0 a h e
not_undeclared c (commands.Watch t w) a h e = e
not_undeclared c (commands.Fork t p) a h (inl e) = thread_named c t a h.0 e
not_undeclared c (commands.Fork t p) a h (inr e) = omega (arith, a.procs, h.1, e)

-- a command stands in the list of its thread's processor
at_home : (c : ℕ) (P : ThreadDecl → Type 0) (o : Option ThreadDecl) → ((t : ThreadDecl) → P t → t.cpu.0 ≡ c) → IsSomeAnd o P → IsElsewhere (Some c) o → ⊥
at_home c P None k h e = absurd h
at_home c P (Some t) k h e = e (k t h)

not_elsewhere : (l : Layout) (c : ℕ) (cmd : Command) → IsCommandOf l c cmd
    → IsElsewhere (Some c) (option_and_then (λ t. slice_get l.threads t) (actor cmd)) → ⊥
not_elsewhere l c (commands.Load t v x) h e = at_home c (IsAccessBy l c v) (slice_get l.threads t.0) (λ d k. k.0) h.0 e
not_elsewhere l c (commands.Fetch t v x) h e = at_home c (IsAccessBy l c v) (slice_get l.threads t.0) (λ d k. k.0) h.0 e
not_elsewhere l c (commands.KLoad t v x) h e = at_home c (IsAccessBy l c v) (slice_get l.threads t.0) (λ d k. k.0) h.0 e
not_elsewhere l c (commands.Store t v x w) h e = at_home c (IsAccessBy l c v) (slice_get l.threads t.0) (λ d k. k.0) h.0 e
not_elsewhere l c (commands.Prctl t args) h e = at_home c (IsOn c) (slice_get l.threads t.0) (λ d k. k) h e
not_elsewhere l c (commands.RaiseUser t r x) h e = at_home c (IsOn c) (slice_get l.threads t.0) (λ d k. k) h e
not_elsewhere l c (commands.Fork t p) h e = at_home c (IsOn c) (slice_get l.threads t.0) (λ d k. k) h.0 e
not_elsewhere l c cmd h e = e

-- the numbers are within their ranges
fits_access : (l : Layout) (c : ℕ) (t : Thread) (v : VSlot) (line : ℕ) → IsSound l → IsAccess l c t v → line < line_limit → IsAccessWithin t v line
fits_access l c t v line s h k =
    let slot = some_inside (IsAccessBy l c v) (v.0 < length l.trans) (slice_get l.threads t.0)
    (λ x a. some_within (λ (w : TransDecl). w.process ≡ x.process) l.trans v.0 a.1) h in
    (below t.0 (length l.threads) thread_limit (some_within (IsAccessBy l c v) l.threads t.0 h) s.threads, below v.0 (length l.trans) translation_limit slot s.trans, k)

fits_thread : (l : Layout) (c : ℕ) (t : Thread) → IsSound l → IsThreadOf l c t → t.0 < thread_limit
fits_thread l c t s h = below t.0 (length l.threads) thread_limit (some_within (IsOn c) l.threads t.0 h) s.threads

fits_page : (l : Layout) (P : PageKind → Type 0) (q : ℕ) → IsSound l → IsSomeAnd (slice_get l.pages q) P → q < page_limit
fits_page l P q s h = below q (length l.pages) page_limit (some_within P l.pages q h) s.pages

command_fits : (l : Layout) (c : ℕ) (cmd : Command) → IsSound l → IsCommandOf l c cmd → HasWords cmd → CommandFits cmd
command_fits l c (commands.Load t v x) s h w = fits_access l c t v x s h.0 h.1
command_fits l c (commands.Fetch t v x) s h w = fits_access l c t v x s h.0 h.1
command_fits l c (commands.KLoad t v x) s h w = fits_access l c t v x s h.0 h.1
command_fits l c (commands.Store t v x y) s h w = (fits_access l c t v x s h.0 h.1, w)
command_fits l c (commands.Free v) s h w = below v.0 (length l.trans) translation_limit h s.trans
command_fits l c (commands.Drop q) s h w = below q.0 (length l.pages) page_limit h s.pages
command_fits l c (commands.Sync q) s h w = fits_page l IsFile q.0 s h
command_fits l c (commands.Out q) s h w = fits_page l IsAnon q.0 s h
command_fits l c (commands.Fsync n) s h w = below n.0 l.files file_limit h s.files
command_fits l c (commands.Open n) s h w = below n.0 l.files file_limit h s.files
command_fits l c (commands.Prctl t args) s h w = (fits_thread l c t s h, w.0, w.1, w.2, w.3, w.4)
command_fits l c (commands.Bad f x) s h w = (below f.0 l.frames frame_limit h.0 s.frames, h.1)
command_fits l c (commands.Weak f x) s h w = (below f.0 l.frames frame_limit h.0 s.frames, h.1)
command_fits l c (commands.Scrub a b) s h w = (h.0, below b.0 l.frames frame_limit h.1 s.frames)
command_fits l c (commands.Log status addr misc) s h w = w
command_fits l c (commands.RaiseUser t r x) s h w = fits_thread l c t s h
command_fits l c (commands.RaiseKernel r x) s h w = tt
command_fits l c commands.RaiseNested s h w = tt
command_fits l c (commands.Inject f) s h w = below f.0 l.frames frame_limit h s.frames
command_fits l c (commands.Soft f) s h w = below f.0 l.frames frame_limit h s.frames
command_fits l c (commands.Unpoison f) s h w = below f.0 l.frames frame_limit h s.frames
command_fits l c (commands.Watch t w) s h k = h
command_fits l c (commands.Fork t p) s h k = (fits_thread l c t s h.0, below p.0 l.procs process_limit h.1 s.procs)

-- nor is one beyond the limits of the version
not_over : (n m limit : ℕ) → n < m → m ≤ limit → limit ≤ n → ⊥
not_over n m limit h k e = omega (arith, h, k, e)

access_inside : (l : Layout) (c : ℕ) (t : Thread) (v : VSlot) → IsSound l → IsAccess l c t v → translation_limit_of l.version ≤ v.0 → ⊥
access_inside l c t v s h e =
    not_over v.0 (length l.trans) (translation_limit_of l.version) (some_inside (IsAccessBy l c v) (v.0 < length l.trans) (slice_get l.threads t.0)
    (λ x a. some_within (λ (w : TransDecl). w.process ≡ x.process) l.trans v.0 a.1) h) s.within.trans e

page_inside : (l : Layout) (P : PageKind → Type 0) (q : ℕ) → IsSound l → IsSomeAnd (slice_get l.pages q) P → page_limit_of l.version ≤ q → ⊥
page_inside l P q s h e = not_over q (length l.pages) (page_limit_of l.version) (some_within P l.pages q h) s.within.pages e

frame_inside : (l : Layout) (f : ℕ) → IsSound l → f < l.frames → frame_limit_of l.version ≤ f → ⊥
frame_inside l f s h e = not_over f l.frames (frame_limit_of l.version) h s.within.frames e

not_beyond : (l : Layout) (c : ℕ) (cmd : Command) → IsSound l → IsCommandOf l c cmd → IsBeyond l.version cmd → ⊥
not_beyond l c (commands.Load t v x) s h e = access_inside l c t v s h.0 e
not_beyond l c (commands.Fetch t v x) s h e = access_inside l c t v s h.0 e
not_beyond l c (commands.KLoad t v x) s h e = access_inside l c t v s h.0 e
not_beyond l c (commands.Store t v x w) s h e = access_inside l c t v s h.0 e
not_beyond l c (commands.Free v) s h e = not_over v.0 (length l.trans) (translation_limit_of l.version) h s.within.trans e
not_beyond l c (commands.Drop q) s h e = not_over q.0 (length l.pages) (page_limit_of l.version) h s.within.pages e
not_beyond l c (commands.Sync q) s h e = page_inside l IsFile q.0 s h e
not_beyond l c (commands.Out q) s h e = page_inside l IsAnon q.0 s h e
not_beyond l c (commands.Bad f x) s h e = frame_inside l f.0 s h.0 e
not_beyond l c (commands.Weak f x) s h e = frame_inside l f.0 s h.0 e
not_beyond l c (commands.Scrub a b) s h e = frame_inside l b.0 s h.1 e
not_beyond l c (commands.Inject f) s h e = frame_inside l f.0 s h e
not_beyond l c (commands.Soft f) s h e = frame_inside l f.0 s h e
not_beyond l c (commands.Unpoison f) s h e = frame_inside l f.0 s h e
not_beyond l c cmd s h e = e

-- ---- twins and forks

-- no command of a list stands before the list begins
unlike : (p q : ℕ) → (Some p ≡ Some q → ⊥) → p ≡ q → ⊥
unlike p q h e = h (ap Some e)

in_none : (test : Bool) (x : Command) → test ≡ false → option_to_list (if test then Some x else None) ≡ []
in_none true x e = absurd (cc e)
in_none false x e = refl

not_begun : (p : Option ℕ) (c : ℕ) (fs : List ScriptLine) → (p ≡ Some c → ⊥) → (Contains (lists_in fs) c → ⊥) → commands_from p c fs ≡ []
not_begun p c [] h k = refl
not_begun p c (forms.Cpu n ∷ fs) h k =
    rw (no_command p c (forms.Cpu n) refl) (not_begun (Some n) c fs (λ e. k (0, omega arith, same_Some n c e)) (λ has. k (Contains-append_right (n ∷ []) (lists_in fs) c has)))
not_begun None c (forms.Command x ∷ fs) h k = not_begun None c fs h k
not_begun (Some p) c (forms.Command x ∷ fs) h k = rw (in_none (p == c) x (other p c (unlike p c h))) (not_begun (Some p) c fs h k)
not_begun p c (forms.Schedule ws ∷ fs) h k = rw (no_command p c (forms.Schedule ws) refl) (not_begun None c fs (λ e. none-some c e) k)
not_begun p c (forms.End ∷ fs) h k = rw (no_command p c forms.End refl) (not_begun None c fs (λ e. none-some c e) k)
not_begun p c (f ∷ fs) h k = rw (no_command p c f refl) (not_begun p c fs h k)

-- the list that has just begun
list_begun : (fs : List ScriptLine) (c : ℕ) → (Contains (lists_in fs) c → ⊥) → commands_of (fs ++ forms.Cpu c ∷ []) c ≡ []
list_begun fs c once = commands_of-push fs (forms.Cpu c) c ∙ rw (no_command (place_in fs) c (forms.Cpu c) refl) (append-nil (commands_of fs c) ∙ not_begun None c fs (λ e. none-some c e) once)

-- one command more in the list
list_longer : (fs : List ScriptLine) (c : ℕ) (x : Command) → place_in fs ≡ Some c → commands_of (fs ++ forms.Command x ∷ []) c ≡ commands_of fs c ++ x ∷ []
list_longer fs c x e =
    commands_of-push fs (forms.Command x) c ∙ ap (λ p. commands_of fs c ++ option_to_list (command_at p c (forms.Command x))) e
    ∙ ap (λ t. commands_of fs c ++ option_to_list (if t then Some x else None)) (same c c refl)

get_behind : (xs : List Command) (y : Command) (ys : List Command) → slice_get (xs ++ y ∷ ys) (length xs) ≡ Some y
get_behind [] y ys = refl
get_behind (x ∷ xs) y ys = get_behind xs y ys

-- the next command of a list isn't forked wrongly
next_fork : (l : Layout) (c : ℕ) (done : List Command) (x : Command) (rest : List Command) → AreForksFit l c (done ++ x ∷ rest) → is_wrong_fork l c done x ≡ false
next_fork l c done x rest h =
    let there : slice_get (done ++ x ∷ rest) (length done) ≡ Some x = get_behind done x rest in
    let before : take (length done) (done ++ x ∷ rest) ≡ done = take_at done (x ∷ rest) (length done) refl in
    rw before at (h (length done) x there)

fork_right : (fs : List ScriptLine) (l : Layout) (c : ℕ) (done : List Command) (x : Command) (rest : List Command) → names_in fs ≡ bare l → place_in fs ≡ Some c → commands_of fs c ≡ done
    → AreForksFit l c (done ++ x ∷ rest) → IsSomeAnd (place_in fs) (λ (cpu : ℕ). is_wrong_fork (names_in fs) cpu (commands_of fs cpu) x ≡ true) → ⊥
fork_right fs l c done x rest names place list h e =
    let here : is_wrong_fork (names_in fs) c (commands_of fs c) x ≡ true = rw place at e in
    let is : is_wrong_fork (names_in fs) c (commands_of fs c) x ≡ is_wrong_fork l c done x =
    ap (λ (m : Layout). is_wrong_fork m c (commands_of fs c) x) names ∙ ap (λ (xs : List Command). is_wrong_fork (bare l) c xs x) list ∙ bare_fork l c done x in
    clash (is_wrong_fork l c done x) (sym is ∙ here) (next_fork l c done x rest h)

-- a process that is forked once at most by these lines and by a command isn't forked by the lines
fork_once : (fs : List ScriptLine) (x : Command) → ((p : ℕ) → lines_weight (one_fork p) fs + one_fork p x ≤ 1) → is_again fs x ≡ false
fork_once fs (commands.Fork t q) h =
    let one : one_fork q.0 (commands.Fork t q) ≡ 1 = ap (λ b. cond b 1 0) (same q.0 q.0 refl) in never_forked q.0 fs (omega (arith, h q.0, one))
fork_once fs x h = refl

abbrev pub IsOld : Command → Type 0
IsOld c = IsNewer c → ⊥

-- the commands of a list
pub made_commands : {fs : List ScriptLine} (k : Known) (l : Layout) (c n : ℕ) (cmds : List Command) → IsMade fs 13 (record k { commands = n }) → IsLaidOut k l → 0 < k.cpus → 0 < k.frames
    → k.place ≡ Some c → All (IsCommandOf l c) cmds → (l.version ≡ versions.One → All IsOld cmds) → All HasWords cmds → n + length cmds ≤ command_limit
    → (done : List Command) → commands_of fs c ≡ done → All (NamesNoTwin l) cmds → AreForksFit l c (done ++ cmds) → ((p : ℕ) → lines_weight (one_fork p) fs + weight (one_fork p) cmds ≤ 1)
    → IsMade (fs ++ map forms.Command cmds) 13 (record k { commands = n + length cmds })
made_commands k l c n [] h laid some_c some_f here own old words few done list untwinned forks once = let e : n + zero ≡ n = omega arith in rw e (made_nil h)
made_commands {fs} k l c n (cmd ∷ cmds) h laid some_c some_f here own old words few done list untwinned forks once =
    let own_it = All-head (IsCommandOf l c) cmd cmds own in
    let above = above_made {k = record k { commands = n }} {l = l} h (record { sound = laid.sound; version = laid.version; cpus = laid.cpus; frames = laid.frames; files = laid.files; procs = laid.procs; threads = laid.threads; pages = laid.pages; trans = laid.trans; locked = laid.locked; twins = laid.twins; guests = laid.guests }) in
    let names = names_above above in
    let count : commands_in fs ≡ n = ap (λ (x : Known). x.commands) h.same in
    let place : place_in fs ≡ Some c = ap (λ (x : Known). x.place) h.same ∙ here in
    let clean : IsClean fs (forms.Command cmd) = put_command h.some (record {
      placed = placed h some_c some_f;
      older = λ one. All-head IsOld cmd cmds (old (sym above.version ∙ one));
      few = omega arith;
      low = λ e. not_beyond l c cmd laid.sound own_it (rw above.version at e);
      named = not_undeclared c cmd above own_it;
      here = λ e. not_elsewhere l c cmd own_it (rw (place, above.threads) at e);
      no_twin = ap (λ (m : Layout). names_twin m cmd) names ∙ All-head (NamesNoTwin l) cmd cmds untwinned;
      fork = fork_right fs l c done cmd cmds names place list forks;
      once = fork_once fs cmd (λ p. omega (arith, once p));
    }) in
    let rest = made_commands k l c (n + 1) cmds (made_push (forms.Command cmd) h (omega arith) (plain (command_fits l c cmd laid.sound own_it (All-head HasWords cmd cmds words)) refl) clean)
    laid some_c some_f here (All-tail (IsCommandOf l c) cmd cmds own) (λ one. All-tail IsOld cmd cmds (old one)) (All-tail HasWords cmd cmds words) (omega arith)
    (done ++ cmd ∷ []) (list_longer fs c cmd place ∙ ap (λ xs. xs ++ cmd ∷ []) list) (All-tail (NamesNoTwin l) cmd cmds untwinned) (rw append_assoc forks)
    (λ p. omega (arith, once p, lines-push (one_fork p) fs (forms.Command cmd))) in
    let e : n + length (cmd ∷ cmds) ≡ n + 1 + length cmds = omega arith in
    rw e (made_then fs (forms.Command cmd) (map forms.Command cmds) rest)

-- the commands of a list, behind other lines
lines_commands : (w : Command → ℕ) (fs : List ScriptLine) (cmds : List Command) → lines_weight w (fs ++ map forms.Command cmds) ≡ lines_weight w fs + weight w cmds
lines_commands w [] [] = refl
lines_commands w [] (cmd ∷ cmds) = omega (arith, lines_commands w [] cmds)
lines_commands w (f ∷ fs) cmds = omega (arith, lines_commands w fs cmds)

-- the lists, one behind the other
abbrev pub placed_at : Option ℕ → ℕ → List (List Command) → Option ℕ
placed_at p m [] = p
placed_at p m (list ∷ lists) = placed_at (Some m) (m + 1) lists

pub made_lists : {fs : List ScriptLine} (k : Known) (l : Layout) (done : List ℕ) (p : Option ℕ) (n m : ℕ) (lists : List (List Command))
    → IsMade fs 13 (record k { lists = done; place = p; commands = n }) → IsLaidOut k l → 0 < k.cpus → 0 < k.frames
    → All (λ i. i < m) done → m + length lists ≤ k.cpus → k.cpus ≤ cpu_limit_of k.version → AreLists l m lists → (l.version ≡ versions.One → All (All IsOld) lists) → All (All HasWords) lists → n + sum_by length lists ≤ command_limit
    → All (All (NamesNoTwin l)) lists → ((i : ℕ) (list : List Command) → slice_get lists i ≡ Some list → AreForksFit l (m + i) list) → ((p : ℕ) → lines_weight (one_fork p) fs + total (one_fork p) lists ≤ 1)
    → IsMade (fs ++ numbered list_forms m lists) 13 (record k { lists = done ++ range_with_len m (length lists); place = placed_at p m lists; commands = n + sum_by length lists })
made_lists k l done p n m [] h laid some_c some_f low l_c few_c own old words few untwinned forks once =
    let e : n + zero ≡ n = omega arith in rw (append-nil done, e) (made_nil h)
made_lists {fs} k l done p n m (list ∷ lists) h laid some_c some_f low l_c few_c own old words few untwinned forks once =
    let cpus : cpus_in fs ≡ k.cpus = ap (λ (x : Known). x.cpus) h.same in
    let begun : lists_in fs ≡ done = ap (λ (x : Known). x.lists) h.same in
    let sum : sum_by length (list ∷ lists) ≡ length list + sum_by length lists = sum_by-cons length list lists in
    let not_listed : Contains (lists_in fs) m → ⊥ = λ has. omega (arith, All-contains (λ i. i < m) done m low (subst (λ xs. Contains xs m) begun has)) in
    let version : version_in fs ≡ k.version = ap (λ (x : Known). x.version) h.same in
    let low_c : cpu_limit_of k.version ≤ cpu_limit = cpu_most k.version in
    let clean : IsClean fs (forms.Cpu m) = put_cpu h.some (record { placed = placed h some_c some_f; cpu = omega arith; low = rw version (omega arith) }) not_listed in
    let head = made_push (forms.Cpu m) h (omega arith) (plain (omega arith) refl) clean in
    let one = made_commands (record k { lists = done ++ m ∷ []; place = Some m }) l m n list head
    (record { sound = laid.sound; version = laid.version; cpus = laid.cpus; frames = laid.frames; files = laid.files; procs = laid.procs; threads = laid.threads; pages = laid.pages; trans = laid.trans; locked = laid.locked; twins = laid.twins; guests = laid.guests })
    some_c some_f refl own.0 (λ one. All-head (All IsOld) list lists (old one)) (All-head (All HasWords) list lists words) (omega arith)
    [] (list_begun fs m not_listed) (All-head (All (NamesNoTwin l)) list lists untwinned) (let at : m + 0 ≡ m = omega arith in rw at at (forks 0 list refl))
    (λ p. omega (arith, once p, lines-push (one_fork p) fs (forms.Cpu m))) in
    let rest = made_lists k l (done ++ m ∷ []) (Some m) (n + length list) (m + 1) lists one laid some_c some_f
    (All-push (λ i. i < m + 1) done m (All-weaker (λ i. i < m) (λ i. i < m + 1) (λ i e. omega arith) done low) (omega arith)) (omega arith) few_c own.1
    (λ one. All-tail (All IsOld) list lists (old one)) (All-tail (All HasWords) list lists words) (omega arith)
    (All-tail (All (NamesNoTwin l)) list lists untwinned) (λ i xs e. let at : m + suc i ≡ m + 1 + i = omega arith in rw at at (forks (suc i) xs e))
    (λ p. omega (arith, once p, lines-push (one_fork p) fs (forms.Cpu m), lines_commands (one_fork p) (fs ++ forms.Cpu m ∷ []) list)) in
    let count : n + length list + sum_by length lists ≡ n + sum_by length (list ∷ lists) = omega (arith, sum) in
    made_then fs (forms.Cpu m) (map forms.Command list ++ numbered list_forms (m + 1) lists)
    (rw (append_assoc (fs ++ forms.Cpu m ∷ []) (map forms.Command list) (numbered list_forms (m + 1) lists), append_assoc done (m ∷ []) (range_with_len (m + 1) (length lists)), count) at rest)
