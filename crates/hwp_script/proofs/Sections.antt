-- Declarations that are put one after the other: each line is clean, and what they declare grows.
use Rattle.std.proofs.Common.{ℕ, ◌≡◌, ◌<◌, ◌≤◌, ◌^◌, ◌+◌, ◌++◌, ◌==◌, Bool, true, false, List, [], ◌∷◌, length, get_or, map, replicate, Option, Some, None, zero, suc, ap, subst, ◌∙◌, sym, refl, arith}
use Rattle.std.specs.Prelude.{All, Contains}
use Rattle.std.specs.List.{range_with_len}
use Rattle.std.proofs.lemmas.List.{append-nil, append_assoc, length_push, replicate_more}
use Rattle.std.proofs.lemmas.List.Elements.{All-nil, All-cons, All-head, All-tail, All-push, All-weaker, All-contains}
use Rattle.hwp_script_read.specs.hwp_geom.Limits.{cpu_limit, frame_limit, page_limit, translation_limit, cpu_limit_of, frame_limit_of, page_limit_of, translation_limit_of}
use Rattle.hwp_script_read.specs.hwp_geom.declared.Version.{Version}
use Rattle.hwp_script_read.specs.hwp_geom.declared.Version.TheVariants as versions
use Rattle.hwp_script_read.specs.hwp_geom.declared.ThreadDecl.{ThreadDecl}
use Rattle.hwp_script_read.specs.hwp_geom.declared.TransDecl.{TransDecl}
use Rattle.hwp_script_read.specs.hwp_geom.declared.VSlot.{VSlot}
use Rattle.hwp_script_read.specs.hwp_geom.declared.PageKind.{PageKind}
use Rattle.hwp_script_read.specs.hwp_geom.declared.PageKind.TheVariants as kinds
use Rattle.hwp_script_read.specs.hwp_script_lines.declared.ScriptLine.{ScriptLine}
use Rattle.hwp_script_read.specs.hwp_script_lines.declared.Go.{Go}
use Rattle.hwp_script_read.specs.hwp_script_lines.declared.ScriptLine.TheVariants as forms
use Rattle.hwp_script_read.specs.Context.{version_after, version_in, locked_of, locked_in, cpus_of, frames_of, kernel_of, recovery_of, early_of, file_of, proc_of, thread_of, page_of, trans_of, cpu_of, command_of, words_of, kind_of, cpus_in, frames_in, kernel_in, recovery_in, early_in, files_in, procs_in, threads_in, pages_in, trans_in, twins_after, twins_in, guests_after, guests_in, lists_in, commands_in, go_in, place_in, place_after, group, highest}
use Rattle.hwp_script_read.specs.Reasons.{IsClean, AreClean, IsBackingOver, IsBackingUndeclared}
use Rattle.hwp_script_read.proofs.ContextLaws.{onto, plus, more, either, pushed}
use Rattle.hwp_script_read.proofs.CleanLaws.{IsPlaced, cpu_most, frame_most, page_most, trans_most}
use Rattle.hwp_script_read.proofs.CleanLists.{AreClean-none, AreClean-push}
use Rattle.hwp_script_read.proofs.ValidLaws.{IsNamedThread, IsNamedTrans}
use Rattle.hwp_script.specs.Text.{backing_of, numbered, head_forms, kernel_forms, setting_forms, file_form, proc_form, thread_forms, page_forms, trans_forms}
use Rattle.hwp_script_read.specs.hwp_script_lines.Grammar.{bit, Fits}
use Rattle.hwp_script.proofs.WordsPut.{IsWhole}
use Rattle.hwp_script.proofs.CleanPut.{put_header, put_cpus, put_frames, put_kernel, put_recovery, put_early, put_file, put_proc, put_thread, put_page, put_trans}

-- what lines declare
pub record Known : Type 0 where
  pub version : Version
  pub cpus : ℕ
  pub frames : ℕ
  pub kernel : List ℕ
  pub recovery : Option Bool
  pub early : Option Bool
  pub files : ℕ
  pub procs : ℕ
  pub threads : List ThreadDecl
  pub pages : List PageKind
  pub locked : List Bool
  pub trans : List TransDecl
  pub twins : List (Option VSlot)
  pub guests : List Bool
  pub lists : List ℕ
  pub place : Option ℕ
  pub commands : ℕ
  pub go : List Go

abbrev pub known : List ScriptLine → Known
known fs = record {
  version = version_in fs;
  cpus = cpus_in fs;
  frames = frames_in fs;
  kernel = kernel_in fs;
  recovery = recovery_in fs;
  early = early_in fs;
  files = files_in fs;
  procs = procs_in fs;
  threads = threads_in fs;
  pages = pages_in fs;
  locked = locked_in fs;
  trans = trans_in fs;
  twins = twins_in fs;
  guests = guests_in fs;
  lists = lists_in fs;
  place = place_in fs;
  commands = commands_in fs;
  go = go_in fs;
}

abbrev pub go_more : List Go → List Go → List Go
go_more xs [] = xs
go_more xs (w ∷ ws) = xs ++ w ∷ ws

pub go_more-is : (xs : List Go) (ws : List Go) → go_more xs ws ≡ xs ++ ws
go_more-is xs [] = sym (append-nil xs)
go_more-is xs (w ∷ ws) = refl

-- what they declare with one more
abbrev pub next : Known → ScriptLine → Known
next k f = record {
  version = version_after k.version f;
  cpus = plus (cpus_of f) k.cpus;
  frames = plus (frames_of f) k.frames;
  kernel = onto (kernel_of f) k.kernel;
  recovery = either k.recovery (recovery_of f);
  early = either k.early (early_of f);
  files = more (file_of f) k.files;
  procs = more (proc_of f) k.procs;
  threads = onto (thread_of f) k.threads;
  pages = onto (page_of f) k.pages;
  locked = onto (locked_of f) k.locked;
  trans = onto (trans_of f) k.trans;
  twins = twins_after k.twins f;
  guests = guests_after k.guests f;
  lists = onto (cpu_of f) k.lists;
  place = place_after k.place f;
  commands = more (command_of f) k.commands;
  go = go_more k.go (words_of f);
}

known_push : (fs : List ScriptLine) (f : ScriptLine) → known (fs ++ f ∷ []) ≡ next (known fs) f
known_push fs f =
    let p = pushed fs f in
    rw (p.version, p.locked, p.cpus, p.frames, p.kernel, p.recovery, p.early, p.files, p.procs, p.threads, p.pages, p.trans, p.twins, p.guests, p.lists, p.place, p.commands, p.go, go_more-is) refl

-- the lines are clean, of groups up to g, and declare this
pub record IsMade (fs : List ScriptLine) (g : ℕ) (k : Known) : Type 0 where
  pub some : 0 < length fs
  pub clean : AreClean fs
  pub late : highest fs ≤ g
  pub whole : All IsWhole fs
  pub same : known fs ≡ k

-- a line that is none of the schedule
pub plain : {f : ScriptLine} → Fits f → words_of f ≡ [] → IsWhole f
plain {f} h e = record { fits = h; turns = rw e (All-nil (λ (t : Go). t.cpu.0 < cpu_limit)) }

pub made_push : {fs : List ScriptLine} {g : ℕ} {k : Known} (f : ScriptLine) → IsMade fs g k → group f ≤ g → IsWhole f → IsClean fs f → IsMade (fs ++ f ∷ []) g (next k f)
made_push {fs} {g} {k} f h l w c = record {
  some = omega (arith, length_push fs f);
  clean = AreClean-push fs f h.clean c;
  late = omega (arith, (pushed fs f).group, h.late);
  whole = All-push IsWhole fs f h.whole w;
  same = known_push fs f ∙ ap (λ x. next x f) h.same;
}

pub made_later : {fs : List ScriptLine} {g : ℕ} {k : Known} (h : ℕ) → IsMade fs g k → g ≤ h → IsMade fs h k
made_later h made l = record { some = made.some; clean = made.clean; late = omega (arith, made.late, l); whole = made.whole; same = made.same }

pub made_then : {g : ℕ} {k : Known} (fs : List ScriptLine) (f : ScriptLine) (rest : List ScriptLine) → IsMade ((fs ++ f ∷ []) ++ rest) g k → IsMade (fs ++ f ∷ rest) g k
made_then {g} {k} fs f rest h = subst (λ xs. IsMade xs g k) (append_assoc fs (f ∷ []) rest) h

pub made_nil : {fs : List ScriptLine} {g : ℕ} {k : Known} → IsMade fs g k → IsMade (fs ++ []) g k
made_nil {fs} h = rw append-nil h

pub placed : {fs : List ScriptLine} {g : ℕ} {k : Known} → IsMade fs g k → 0 < k.cpus → 0 < k.frames → IsPlaced fs g
placed {fs} {g} {k} h c f =
    let cpus : cpus_in fs ≡ k.cpus = ap (λ (x : Known). x.cpus) h.same in
    let frames : frames_in fs ≡ k.frames = ap (λ (x : Known). x.frames) h.same in
    record { late = h.late; some_cpu = omega arith; some_frame = omega arith }

-- the header, and the numbers of processors and frames
abbrev pub nothing : Known
nothing = record {
  version = versions.One;
  cpus = 0;
  frames = 0;
  kernel = [];
  recovery = None;
  early = None;
  files = 0;
  procs = 0;
  threads = [];
  pages = [];
  locked = [];
  trans = [];
  twins = [];
  guests = [];
  lists = [];
  place = None;
  commands = 0;
  go = [];
}

made_header : (v : Version) → IsMade (forms.Header v ∷ []) 2 (record nothing { version = v })
made_header v = record { some = omega arith; clean = AreClean-push [] (forms.Header v) AreClean-none (put_header v); late = omega arith; whole = All-cons IsWhole (forms.Header v) [] (plain tt refl) (All-nil IsWhole); same = refl }

pub made_head : (v : Version) (c f : ℕ) → 1 ≤ c → c ≤ cpu_limit_of v → 1 ≤ f → f ≤ frame_limit_of v → IsMade (head_forms v c f) 2 (record nothing { version = v; cpus = c; frames = f })
made_head v c f some_c few_c some_f few_f =
    let low_c : cpu_limit_of v ≤ cpu_limit = cpu_most v in
    let low_f : frame_limit_of v ≤ frame_limit = frame_most v in
    let one = made_push (forms.Cpus c) (made_header v) (omega arith) (plain (omega arith) refl) (put_cpus (omega arith) (record { some = omega arith; few = few_c; first = refl; late = omega arith })) in
    let two = made_push (forms.Frames f) one (omega arith) (plain (omega arith) refl) (put_frames (omega arith) (record { some = omega arith; few = few_f; first = refl; late = omega arith }) (omega arith)) in
    let cpus : 0 + c ≡ c = omega arith in
    let frames : 0 + f ≡ f = omega arith in
    rw (cpus, frames) at two

-- the frames of the kernel
abbrev pub marked : ℕ → List Bool → List ℕ
marked n [] = []
marked n (true ∷ bs) = n ∷ marked (n + 1) bs
marked n (false ∷ bs) = marked (n + 1) bs

pub made_kernel : {fs : List ScriptLine} (k : Known) (done : List ℕ) (n : ℕ) (bs : List Bool) → IsMade fs 3 (record k { kernel = done }) → 0 < k.cpus → 0 < k.frames → k.frames ≤ frame_limit_of k.version
    → All (λ m. m < n) done → n + length bs ≤ k.frames → IsMade (fs ++ numbered kernel_forms n bs) 3 (record k { kernel = done ++ marked n bs })
made_kernel k done n [] h c f few low l = rw (append-nil done) (made_nil h)
made_kernel k done n (false ∷ bs) h c f few low l =
    made_kernel k done (n + 1) bs h c f few (All-weaker (λ m. m < n) (λ m. m < n + 1) (λ m e. omega arith) done low) (omega arith)
made_kernel {fs} k done n (true ∷ bs) h c f few low l =
    let frames : frames_in fs ≡ k.frames = ap (λ (x : Known). x.frames) h.same in
    let marks : kernel_in fs ≡ done = ap (λ (x : Known). x.kernel) h.same in
    let once : Contains (kernel_in fs) n → ⊥ = λ has. omega (arith, All-contains (λ m. m < n) done n low (subst (λ xs. Contains xs n) marks has)) in
    let version : version_in fs ≡ k.version = ap (λ (x : Known). x.version) h.same in
    let low_f : frame_limit_of k.version ≤ frame_limit = frame_most k.version in
    let clean : IsClean fs (forms.Kernel n) = put_kernel h.some (record { placed = placed h c f; declared = omega arith; low = rw version (omega arith) }) once in
    let rest = made_kernel k (done ++ n ∷ []) (n + 1) bs (made_push (forms.Kernel n) h (omega arith) (plain (omega arith) refl) clean) c f few
    (All-push (λ m. m < n + 1) done n (All-weaker (λ m. m < n) (λ m. m < n + 1) (λ m e. omega arith) done low) (omega arith)) (omega arith) in
    made_then fs (forms.Kernel n) (numbered kernel_forms (n + 1) bs) (rw (append_assoc done (n ∷ []) (marked (n + 1) bs)) at rest)

-- the settings
pub bit_low : (b : Bool) → bit b ≤ 1
bit_low true = omega arith
bit_low false = omega arith

pub bit_is : (b : Bool) → (bit b == 1) ≡ b
bit_is true = refl
bit_is false = refl

pub made_settings : {fs : List ScriptLine} (k : Known) (recovery early : Bool) → IsMade fs 5 (record k { recovery = None; early = None }) → highest fs ≤ 3 → 0 < k.cpus → 0 < k.frames
    → IsMade (fs ++ setting_forms recovery early) 5 (record k { recovery = Some recovery; early = Some early })
made_settings {fs} k recovery early h low c f =
    let first : IsMade fs 4 (record k { recovery = None; early = None }) = record { some = h.some; clean = h.clean; late = omega (arith, low); whole = h.whole; same = h.same } in
    let one = made_push (forms.Recovery (bit recovery)) first (omega arith) (plain (omega (arith, bit_low recovery)) refl)
    (put_recovery h.some (record { placed = placed first c f; first = ap (λ (x : Known). x.recovery) h.same }) (bit_low recovery)) in
    let next = made_later 5 one (omega arith) in
    let two = made_push (forms.Early (bit early)) next (omega arith) (plain (omega (arith, bit_low early)) refl)
    (put_early next.some (record { placed = placed next c f; first = ap (λ (x : Known). x.early) next.same }) (bit_low early)) in
    rw (bit_is recovery, bit_is early) at (made_then fs (forms.Recovery (bit recovery)) (forms.Early (bit early) ∷ []) two)

-- the files and the processes
pub made_files : {fs : List ScriptLine} (k : Known) (m n : ℕ) → IsMade fs 6 (record k { files = m }) → 0 < k.cpus → 0 < k.frames → m + n ≤ 16
    → IsMade (fs ++ map file_form (range_with_len m n)) 6 (record k { files = m + n })
made_files k m zero h c f l = let e : m + zero ≡ m = omega arith in rw e (made_nil h)
made_files {fs} k m (suc n) h c f l =
    let clean : IsClean fs (forms.File m) = put_file h.some (record { placed = placed h c f; few = omega arith; next = sym (ap (λ (x : Known). x.files) h.same) }) in
    let e : m + suc n ≡ (m + 1) + n = omega arith in
    rw e (made_then fs (forms.File m) (map file_form (range_with_len (m + 1) n)) (made_files k (m + 1) n (made_push (forms.File m) h (omega arith) (plain (omega arith) refl) clean) c f (omega arith)))

-- no guests among so many processes
abbrev pub noes : ℕ → List Bool
noes n = replicate n false

pub made_procs : {fs : List ScriptLine} (k : Known) (m n : ℕ) → IsMade fs 7 (record k { procs = m; guests = noes m }) → 0 < k.cpus → 0 < k.frames → m + n ≤ 16
    → IsMade (fs ++ map proc_form (range_with_len m n)) 7 (record k { procs = m + n; guests = noes (m + n) })
made_procs k m zero h c f l = let e : m + zero ≡ m = omega arith in rw e (made_nil h)
made_procs {fs} k m (suc n) h c f l =
    let clean : IsClean fs (forms.Proc m) = put_proc h.some (record { placed = placed h c f; few = omega arith; next = sym (ap (λ (x : Known). x.procs) h.same) }) in
    let e : m + suc n ≡ (m + 1) + n = omega arith in
    let made : IsMade (fs ++ forms.Proc m ∷ []) 7 (record k { procs = m + 1; guests = noes (m + 1) }) =
    subst (λ (gs : List Bool). IsMade (fs ++ forms.Proc m ∷ []) 7 (record k { procs = m + 1; guests = gs })) (replicate_more m false)
    (made_push (forms.Proc m) h (omega arith) (plain (omega arith) refl) clean) in
    rw e (made_then fs (forms.Proc m) (map proc_form (range_with_len (m + 1) n)) (made_procs k (m + 1) n made c f (omega arith)))

-- the threads, the pages and the translations
pub made_threads : {fs : List ScriptLine} (k : Known) (done ts : List ThreadDecl) → IsMade fs 8 (record k { threads = done }) → 0 < k.cpus → 0 < k.frames
    → k.cpus ≤ cpu_limit_of k.version → k.procs ≤ 16 → length done + length ts ≤ 32 → All (IsNamedThread k.procs k.cpus) ts
    → IsMade (fs ++ numbered thread_forms (length done) ts) 8 (record k { threads = done ++ ts })
made_threads k done [] h c f few_c few_p l names = rw (append-nil done) (made_nil h)
made_threads {fs} k done (t ∷ ts) h c f few_c few_p l names =
    let named = All-head (IsNamedThread k.procs k.cpus) t ts names in
    let cpus : cpus_in fs ≡ k.cpus = ap (λ (x : Known). x.cpus) h.same in
    let procs : procs_in fs ≡ k.procs = ap (λ (x : Known). x.procs) h.same in
    let next : length done ≡ length (threads_in fs) = sym (ap (λ (x : Known). length x.threads) h.same) in
    let version : version_in fs ≡ k.version = ap (λ (x : Known). x.version) h.same in
    let low_c : cpu_limit_of k.version ≤ cpu_limit = cpu_most k.version in
    let clean : IsClean fs (forms.Thread (length done) t.process.0 t.cpu.0 t.handler) = put_thread t.handler h.some (record {
      placed = placed h c f;
      few = omega arith;
      next = next;
      process = omega (arith, named.0, procs);
      low_process = omega (arith, named.0);
      cpu = omega (arith, named.1, cpus);
      low_cpu = rw version (omega (arith, named.1));
    }) in
    let rest = made_threads k (done ++ t ∷ []) ts (made_push (forms.Thread (length done) t.process.0 t.cpu.0 t.handler) h (omega arith) (plain (omega arith, omega (arith, named.0), omega (arith, named.1)) refl) clean) c f few_c few_p
    (rw length_push (omega arith)) (All-tail (IsNamedThread k.procs k.cpus) t ts names) in
    made_then fs (forms.Thread (length done) t.process.0 t.cpu.0 t.handler) (numbered thread_forms (length done + 1) ts) (rw (length_push, append_assoc done (t ∷ []) ts) at rest)

-- the file behind a page, if there is one, is one of n, and its words are of 64 bits
abbrev pub HasFile : ℕ → PageKind → Type 0
HasFile n kinds.Anon = Unit {0}
HasFile n (kinds.File file fill) = (file.0 < n) × (fill < 2 ^ 64)

kind_back : (kind : PageKind) → kind_of (backing_of kind) ≡ kind
kind_back kinds.Anon = refl
kind_back (kinds.File file fill) = refl

no_over : (n : ℕ) (kind : PageKind) → HasFile n kind → n ≤ 16 → IsBackingOver (backing_of kind) → ⊥
no_over n kinds.Anon h l e = e
no_over n (kinds.File file fill) h l e = let big : 16 ≤ file.0 = e in omega (arith, h.0, big)

no_undeclared : (fs : List ScriptLine) (n : ℕ) (kind : PageKind) → HasFile n kind → files_in fs ≡ n → IsBackingUndeclared fs (backing_of kind) → ⊥
no_undeclared fs n kinds.Anon h same e = e
no_undeclared fs n (kinds.File file fill) h same e = omega (arith, h.0, e)

page_fits : (n q : ℕ) (kind : PageKind) (locked : Bool) → HasFile n kind → n ≤ 16 → q < 2 ^ 64 → Fits (forms.Page q (backing_of kind) locked)
page_fits n q kinds.Anon locked h l low = low
page_fits n q (kinds.File file fill) locked h l low = (low, omega (arith, h.0), h.1)

-- the marks of the pages from n on: whether each is locked
abbrev pub marks_from : List Bool → ℕ → List PageKind → List Bool
marks_from locked n [] = []
marks_from locked n (q ∷ qs) = get_or locked n false ∷ marks_from locked (n + 1) qs

pub made_pages : {fs : List ScriptLine} (k : Known) (locked : List Bool) (done qs : List PageKind) (marks : List Bool) → IsMade fs 10 (record k { pages = done; locked = marks }) → 0 < k.cpus → 0 < k.frames
    → k.files ≤ 16 → length done + length qs ≤ page_limit_of k.version → All (HasFile k.files) qs → (k.version ≡ versions.One → All (λ (l : Bool). l ≡ false) (marks_from locked (length done) qs))
    → IsMade (fs ++ numbered (page_forms locked) (length done) qs) 10 (record k { pages = done ++ qs; locked = marks ++ marks_from locked (length done) qs })
made_pages k locked done [] marks h c f few l files older = rw (append-nil done, append-nil marks) (made_nil h)
made_pages {fs} k locked done (q ∷ qs) marks h c f few l files older =
    let file = All-head (HasFile k.files) q qs files in
    let mark = get_or locked (length done) false in
    let version : version_in fs ≡ k.version = ap (λ (x : Known). x.version) h.same in
    let low_p : page_limit_of k.version ≤ page_limit = page_most k.version in
    let next : length done ≡ length (pages_in fs) = sym (ap (λ (x : Known). length x.pages) h.same) in
    let clean : IsClean fs (forms.Page (length done) (backing_of q) mark) = put_page h.some (record {
      placed = placed h c f;
      older = λ one. All-head (λ (l : Bool). l ≡ false) mark (marks_from locked (length done + 1) qs) (older (sym version ∙ one));
      few = rw version (omega arith);
      next = next;
      low = no_over k.files q file few;
      backed = no_undeclared fs k.files q file (ap (λ (x : Known). x.files) h.same);
    }) in
    let made : IsMade (fs ++ forms.Page (length done) (backing_of q) mark ∷ []) 10 (record k { pages = done ++ q ∷ []; locked = marks ++ mark ∷ [] }) =
    rw kind_back at (made_push (forms.Page (length done) (backing_of q) mark) h (omega arith) (plain (page_fits k.files (length done) q mark file few (omega arith)) refl) clean) in
    let rest = made_pages k locked (done ++ q ∷ []) qs (marks ++ mark ∷ []) made c f few (rw length_push (omega arith)) (All-tail (HasFile k.files) q qs files)
    (λ one. rw length_push (All-tail (λ (l : Bool). l ≡ false) mark (marks_from locked (length done + 1) qs) (older one))) in
    made_then fs (forms.Page (length done) (backing_of q) mark) (numbered (page_forms locked) (length done + 1) qs)
    (rw (length_push, append_assoc done (q ∷ []) qs, append_assoc marks (mark ∷ []) (marks_from locked (length done + 1) qs)) at rest)

-- no twins of so many translations
abbrev pub nones : ℕ → List (Option VSlot)
nones n = replicate n None

-- a translation more has no twin at first
untwinned : (done : List TransDecl) (v : TransDecl) → nones (length done) ++ None ∷ [] ≡ nones (length (done ++ v ∷ []))
untwinned done v = replicate_more (length done) None ∙ ap nones (sym (length_push done v))

pub made_trans : {fs : List ScriptLine} (k : Known) (done vs : List TransDecl) → IsMade fs 11 (record k { trans = done; twins = nones (length done) }) → 0 < k.cpus → 0 < k.frames
    → k.procs ≤ 16 → length k.pages ≤ page_limit_of k.version → length done + length vs ≤ translation_limit_of k.version → All (IsNamedTrans k.procs (length k.pages)) vs
    → IsMade (fs ++ numbered trans_forms (length done) vs) 11 (record k { trans = done ++ vs; twins = nones (length done + length vs) })
made_trans k done [] h c f few_p few_q l names = let e : length done + 0 ≡ length done = omega arith in rw (append-nil done, e) (made_nil h)
made_trans {fs} k done (v ∷ vs) h c f few_p few_q l names =
    let named = All-head (IsNamedTrans k.procs (length k.pages)) v vs names in
    let procs : procs_in fs ≡ k.procs = ap (λ (x : Known). x.procs) h.same in
    let pages : length (pages_in fs) ≡ length k.pages = ap (λ (x : Known). length x.pages) h.same in
    let next : length done ≡ length (trans_in fs) = sym (ap (λ (x : Known). length x.trans) h.same) in
    let version : version_in fs ≡ k.version = ap (λ (x : Known). x.version) h.same in
    let low_p : page_limit_of k.version ≤ page_limit = page_most k.version in
    let low_t : translation_limit_of k.version ≤ translation_limit = trans_most k.version in
    let clean : IsClean fs (forms.Trans (length done) v.process.0 v.page.0) = put_trans h.some (record {
      placed = placed h c f;
      few = rw version (omega arith);
      next = next;
      process = omega (arith, named.0, procs);
      low_process = omega (arith, named.0);
      page = omega (arith, named.1, pages);
      low_page = rw version (omega (arith, named.1));
    }) in
    let made : IsMade (fs ++ forms.Trans (length done) v.process.0 v.page.0 ∷ []) 11 (record k { trans = done ++ v ∷ []; twins = nones (length (done ++ v ∷ [])) }) =
    subst (λ (ts : List (Option VSlot)). IsMade (fs ++ forms.Trans (length done) v.process.0 v.page.0 ∷ []) 11 (record k { trans = done ++ v ∷ []; twins = ts })) (untwinned done v)
    (made_push (forms.Trans (length done) v.process.0 v.page.0) h (omega arith) (plain (omega arith, omega (arith, named.0), omega (arith, named.1)) refl) clean) in
    let many : length done + 1 + length vs ≡ length done + length (v ∷ vs) = omega arith in
    let rest = made_trans k (done ++ v ∷ []) vs made c f few_p few_q
    (rw length_push (omega arith)) (All-tail (IsNamedTrans k.procs (length k.pages)) v vs names) in
    made_then fs (forms.Trans (length done) v.process.0 v.page.0) (numbered trans_forms (length done + 1) vs) (rw (length_push, append_assoc done (v ∷ []) vs, many) at rest)
