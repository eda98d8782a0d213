-- The text of a valid script is read as the script.
use Rattle.std.proofs.Common.{ℕ, ◌≡◌, ◌<◌, ◌≤◌, ◌+◌, ◌-◌, ◌*◌, ◌++◌, Bool, true, false, List, [], ◌∷◌, length, get_or, map, Some, None, zero, suc, ap, ◌∙◌, sym, refl, arith, ⊎_elim}
use Rattle.std.specs.Prelude.{◌↔◌, All, Contains, slice_get, sum_by, count_by, fold}
use Rattle.std.specs.List.{range_with_len}
use Rattle.std.proofs.lemmas.List.{length_push, take_all}
use Rattle.std.proofs.lemmas.List.Elements.{All-nil, Contains-append_right, Contains-append_cases, Contains-push_cases}
use Rattle.hwp_script_read.specs.hwp_geom.Limits.{command_limit, page_limit_of, translation_limit_of}
use Rattle.hwp_script_read.specs.hwp_geom.Layout.{IsSound, IsBacked}
use Rattle.hwp_script_read.specs.hwp_geom.declared.Layout.{Layout}
use Rattle.hwp_script_read.specs.hwp_geom.declared.PageKind.{PageKind}
use Rattle.hwp_script_read.specs.hwp_geom.declared.Version.TheVariants as versions
use Rattle.hwp_script_read.specs.hwp_geom.declared.PageKind.TheVariants as kinds
use Rattle.hwp_script_read.specs.hwp_script_lines.declared.ScriptLine.{ScriptLine}
use Rattle.hwp_script_read.specs.hwp_script_lines.declared.ScriptLine.TheVariants as forms
use Rattle.hwp_script_read.specs.declared.Script.{Script}
use Rattle.hwp_script_read.specs.Context.{cpus_in, commands_in, place_after}
use Rattle.hwp_script_read.specs.Collects.{Collects, IsEnded, commands_of, commands_from}
use Rattle.hwp_script_read.specs.hwp_script_words.Limits.{script_limit}
use Rattle.hwp_script_read.specs.Reads.{Reads}
use Rattle.hwp_script_read.specs.hwp_script_words.Valid.{AreGuestsFit, AreTwinsFit, IsValid, HasFill}
use Rattle.hwp_script_read.specs.hwp_script_words.Forks.{is_fork_of}
use Rattle.hwp_script_read.specs.hwp_script_lines.declared.Command.{Command}
use Rattle.hwp_script_read.proofs.TwinLaws.{IsNone}
use Rattle.hwp_script_read.proofs.GuestLaws.{IsNot, fit_layout}
use Rattle.hwp_script_read.proofs.TallyLaws.{lines_weight, one_fork, sum-weight, total-sum}
use Rattle.hwp_script_read.proofs.CleanLists.{slice_get-append_at}
use Rattle.hwp_script.specs.Text.{numbered, counted, head_forms, kernel_forms, setting_forms, file_form, proc_form, thread_forms, guest_forms, page_forms, trans_forms, cow_forms, list_forms, go_row, rows_of, script_forms, script_text}
use Rattle.hwp_script.specs.Round.{IsTextOf}
use Rattle.hwp_script.proofs.CleanPut.{put_end}
use Rattle.hwp_script.proofs.ReadBack.{lines_at, text_read, forms_read}
use Rattle.hwp_script.proofs.Sections.{Known, IsMade, nothing, noes, marked, marks_from, HasFile, made_head, made_kernel, made_settings, made_files, made_procs, made_threads, made_pages, made_trans, made_later, made_push, placed, plain}
use Rattle.hwp_script.proofs.GuestsPut.{made_hosted}
use Rattle.hwp_script.proofs.CowsPut.{made_cows}
use Rattle.hwp_script.proofs.ListsPut.{made_lists, placed_at}
use Rattle.hwp_script.proofs.RowsPut.{made_rows}
use Rattle.hwp_script.proofs.CommandsBack.{lists_back, between}
use Rattle.hwp_script_read.proofs.OneScript.{one_script}

-- the lines of the declarations
abbrev layout_forms : Layout → List ScriptLine
layout_forms l =
    head_forms l.version l.cpus l.frames ++ numbered kernel_forms 0 l.kernel ++ setting_forms l.recovery l.early ++ counted file_form l.files
    ++ counted proc_form l.procs ++ numbered thread_forms 0 l.threads ++ numbered guest_forms 0 l.guests ++ numbered (page_forms l.locked) 0 l.pages ++ numbered trans_forms 0 l.trans ++ numbered cow_forms 0 l.twins

-- what they declare
abbrev declared : Layout → Known
declared l = record nothing {
  version = l.version;
  cpus = l.cpus;
  frames = l.frames;
  kernel = marked 0 l.kernel;
  recovery = Some l.recovery;
  early = Some l.early;
  files = l.files;
  procs = l.procs;
  threads = l.threads;
  pages = l.pages;
  locked = marks_from l.locked 0 l.pages;
  trans = l.trans;
  twins = l.twins;
  guests = l.guests;
}

has_file : (l : Layout) (kind : PageKind) → IsBacked l kind → HasFill kind → HasFile l.files kind
has_file l kinds.Anon h k = tt
has_file l (kinds.File file fill) h k = (h, k)

have_files : (l : Layout) (qs : List PageKind) → All (IsBacked l) qs → All HasFill qs → All (HasFile l.files) qs
have_files l qs h k = λ i d within. has_file l (get_or qs i d) (h i d within) (k i d within)

from_none : (n : ℕ) → 0 + n ≡ n
from_none n = omega arith

no_more : (n limit : ℕ) → n ≤ limit → 0 + n ≤ limit
no_more n limit h = omega arith

-- the marks are the list of locked pages
marks_at : (locked : List Bool) (n : ℕ) (pages : List PageKind) (rest : List Bool) → length rest ≡ length pages
    → ((i : ℕ) → get_or locked (n + i) false ≡ get_or rest i false) → marks_from locked n pages ≡ rest
marks_at locked n [] [] l same = refl
marks_at locked n [] (b ∷ bs) l same = absurd (omega (arith, l))
marks_at locked n (q ∷ qs) [] l same = absurd (omega (arith, l))
marks_at locked n (q ∷ qs) (b ∷ bs) l same =
    let at : n + 0 ≡ n = omega arith in
    let here : get_or locked n false ≡ b = rw at at (same 0) in
    let behind = marks_at locked (n + 1) qs bs (omega (arith, l)) (λ i. let next : n + 1 + i ≡ n + suc i = omega arith in rw next (same (suc i))) in
    rw (here, behind) refl

marks_are_all : (l : Layout) → IsSound l → marks_from l.locked 0 l.pages ≡ l.locked
marks_are_all l s = marks_at l.locked 0 l.pages l.locked s.locked (λ i. let e : 0 + i ≡ i = omega arith in rw e refl)

made_layout : (l : Layout) → IsSound l → (l.version ≡ versions.One → All (λ (b : Bool). b ≡ false) l.locked) → All HasFill l.pages
    → AreTwinsFit l → (l.version ≡ versions.One → All IsNone l.twins) → AreGuestsFit l → (l.version ≡ versions.One → All IsNot l.guests) → IsMade (layout_forms l) 12 (declared l)
made_layout l s older fills twins untwinned guests unguested =
    let f = s.within in
    let head = made_head l.version l.cpus l.frames s.some_cpu f.cpus s.some_frame f.frames in
    let kernel = made_kernel (record nothing { version = l.version; cpus = l.cpus; frames = l.frames }) [] 0 l.kernel (made_later 3 head (omega arith)) s.some_cpu s.some_frame f.frames
    (All-nil (λ m. m < 0)) (omega (arith, s.kernel)) in
    let settings = made_settings (record nothing { version = l.version; cpus = l.cpus; frames = l.frames; kernel = marked 0 l.kernel }) l.recovery l.early (made_later 5 kernel (omega arith)) kernel.late s.some_cpu s.some_frame in
    let files = made_files (record (declared l) { procs = 0; threads = []; pages = []; locked = []; trans = []; twins = []; guests = [] }) 0 l.files (made_later 6 settings (omega arith)) s.some_cpu s.some_frame (no_more l.files 16 s.files) in
    let procs = made_procs (record (declared l) { threads = []; pages = []; locked = []; trans = []; twins = [] }) 0 l.procs (made_later 7 (rw (from_none l.files) at files) (omega arith)) s.some_cpu s.some_frame (no_more l.procs 16 s.procs) in
    let threads = made_threads (record (declared l) { pages = []; locked = []; trans = []; twins = []; guests = noes l.procs }) [] l.threads (made_later 8 (rw (from_none l.procs) at procs) (omega arith)) s.some_cpu s.some_frame f.cpus s.procs (no_more (length l.threads) 32 s.threads) s.thread_names in
    let hosted = made_hosted (record (declared l) { pages = []; locked = []; trans = []; twins = [] }) l.guests l.procs (sym s.guests) (made_later 9 threads (omega arith)) (fit_layout l guests) s.guests s.procs s.some_cpu s.some_frame unguested in
    let pages = made_pages (record (declared l) { trans = []; twins = [] }) l.locked [] l.pages [] (made_later 10 hosted (omega arith)) s.some_cpu s.some_frame s.files (no_more (length l.pages) (page_limit_of l.version) f.pages) (have_files l l.pages s.page_names fills)
    (λ one. rw (marks_are_all l s) (older one)) in
    let trans = made_trans (declared l) [] l.trans (made_later 11 pages (omega arith)) s.some_cpu s.some_frame s.procs f.pages (no_more (length l.trans) (translation_limit_of l.version) f.trans) s.trans_names in
    let many : 0 + length l.trans ≡ length l.twins = omega (arith, s.twins) in
    made_cows (declared l) l [] l.twins (made_later 12 (rw many at trans) (omega arith)) (record { sound = s; version = refl; pages = refl; trans = refl }) twins refl s.some_cpu s.some_frame untwinned

-- what all lines of a script declare
abbrev said : Script → Known
said s = record (declared s.layout) { lists = range_with_len 0 (length s.lists); commands = sum_by length s.lists; go = s.go }

all_rows : (n : ℕ) → n ≤ (0 + rows_of n) * 50
all_rows n = omega arith

-- the declarations of a valid script
made_of : (s : Script) → IsValid s → IsMade (layout_forms s.layout) 12 (declared s.layout)
made_of s v = made_layout s.layout v.sound (λ one. (v.older one).unlocked) v.fills v.twins (λ one. (v.older one).untwinned) v.guests (λ one. (v.older one).unguested)

no_commands : (s : Script) → IsValid s → commands_in (layout_forms s.layout) ≡ 0
no_commands s v = ap (λ (x : Known). x.commands) (made_of s v).same

no_forks : (w : Command → ℕ) (fs : List ScriptLine) → commands_in fs ≡ 0 → lines_weight w fs ≡ 0
no_forks w [] h = refl
no_forks w (forms.Command c ∷ fs) h = absurd (omega (arith, h))
no_forks w (f ∷ fs) h = omega (arith, no_forks w fs h)

made_script : (s : Script) → IsValid s → IsMade (script_forms s) 15 (said s)
made_script s v =
    let sound = v.sound in
    let layout = made_of s v in
    let lists = made_lists (declared s.layout) s.layout [] None 0 0 s.lists (made_later 13 layout (omega arith))
    (record { sound = sound; version = refl; cpus = refl; frames = refl; files = refl; procs = refl; threads = refl; pages = refl; trans = refl; locked = marks_are_all s.layout sound; twins = refl; guests = refl }) sound.some_cpu sound.some_frame
    (All-nil (λ i. i < 0)) (omega (arith, v.one_each)) sound.within.cpus v.lists (λ one. (v.older one).commands) v.words (no_more (sum_by length s.lists) command_limit v.few)
    v.own (λ i list e. let at : 0 + i ≡ i = omega arith in rw at (v.forks i list e)) (λ p. omega (arith, no_forks (one_fork p) (layout_forms s.layout) (no_commands s v), v.once p, total-sum (one_fork p) (count_by (is_fork_of p)) (sum-weight (one_fork p)) s.lists)) in
    let rows = made_rows (record (said s) { go = [] }) s.go (placed_at None 0 s.lists) 0 (rows_of (length s.go)) (made_later 14 (rw (from_none (sum_by length s.lists)) at lists) (omega arith))
    sound.some_cpu sound.some_frame sound.within.cpus v.go v.few_go (omega arith) in
    let end = made_push forms.End (made_later 15 rows (omega arith)) (omega arith) (plain tt refl) (put_end rows.some (placed rows sound.some_cpu sound.some_frame)) in
    rw (take_all ((0 + rows_of (length s.go)) * 50) s.go (all_rows (length s.go))) at end

-- the marks are those of the frames of the kernel
mark_kept : (n i : ℕ) (bs : List Bool) → slice_get bs i ≡ Some true → Contains (marked n bs) (n + i)
mark_kept n i [] e = absurd (cc)
mark_kept n zero (true ∷ bs) e = (0, omega arith, omega arith)
mark_kept n zero (false ∷ bs) e = absurd (cc)
mark_kept n (suc i) (true ∷ bs) e =
    let at : n + suc i ≡ n + 1 + i = omega arith in rw at (Contains-append_right (n ∷ []) (marked (n + 1) bs) (n + 1 + i) (mark_kept (n + 1) i bs e))
mark_kept n (suc i) (false ∷ bs) e = let at : n + suc i ≡ n + 1 + i = omega arith in rw at (mark_kept (n + 1) i bs e)

only_one : (n m : ℕ) → Contains (n ∷ []) m → n ≡ m
only_one n m h = ⊎_elim (λ (none : Contains [] m). absurd (omega (arith, none.1))) (λ (e : n ≡ m). e) (Contains-push_cases [] n m h)

marks_above : (n m : ℕ) (bs : List Bool) → Contains (marked n bs) m → n ≤ m
marks_above n m [] h = absurd (omega (arith, h.1))
marks_above n m (false ∷ bs) h = omega (arith, marks_above (n + 1) m bs h)
marks_above n m (true ∷ bs) h =
    ⊎_elim (λ (one : Contains (n ∷ []) m). omega (arith, only_one n m one)) (λ (more : Contains (marked (n + 1) bs) m). omega (arith, marks_above (n + 1) m bs more))
    (Contains-append_cases (n ∷ []) (marked (n + 1) bs) m h)

mark_there : (n i : ℕ) (bs : List Bool) → Contains (marked n bs) (n + i) → slice_get bs i ≡ Some true
mark_there n i [] h = absurd (omega (arith, h.1))
mark_there n zero (true ∷ bs) h = refl
mark_there n zero (false ∷ bs) h = absurd (omega (arith, marks_above (n + 1) (n + zero) bs h))
mark_there n (suc i) (false ∷ bs) h = let at : n + suc i ≡ n + 1 + i = omega arith in mark_there (n + 1) i bs (rw at at h)
mark_there n (suc i) (true ∷ bs) h =
    let at : n + suc i ≡ n + 1 + i = omega arith in
    ⊎_elim (λ (one : Contains (n ∷ []) (n + suc i)). absurd (omega (arith, only_one n (n + suc i) one)))
    (λ (more : Contains (marked (n + 1) bs) (n + suc i)). mark_there (n + 1) i bs (rw at at more))
    (Contains-append_cases (n ∷ []) (marked (n + 1) bs) (n + suc i) h)

marks_are : (bs : List Bool) (i : ℕ) → (slice_get bs i ≡ Some true) ↔ Contains (marked 0 bs) i
marks_are bs i =
    let at : 0 + i ≡ i = omega arith in
    (λ e. rw at at (mark_kept 0 i bs e), λ h. mark_there 0 i bs (rw at h))

map_same : {A B : Type 0} (g h : A → B) (xs : List A) → ((x : A) → g x ≡ h x) → map g xs ≡ map h xs
map_same g h [] e = refl
map_same g h (x ∷ xs) e = let here : g x ≡ h x = e x in let rest = map_same g h xs e in cc

lists_said : (s : Script) → IsValid s → IsMade (script_forms s) 15 (said s) → commands_in (layout_forms s.layout) ≡ 0
    → s.lists ≡ map (commands_of (script_forms s)) (range_with_len 0 (cpus_in (script_forms s)))
lists_said s v made front =
    let place = fold place_after None (layout_forms s.layout) in
    let count : cpus_in (script_forms s) ≡ length s.lists = ap (λ (x : Known). x.cpus) made.same ∙ sym v.one_each in
    sym (ap (λ n. map (commands_of (script_forms s)) (range_with_len 0 n)) count
    ∙ map_same (commands_of (script_forms s)) (λ c. commands_from place c (numbered list_forms 0 s.lists)) (range_with_len 0 (length s.lists))
    (λ c. between c (layout_forms s.layout) s.lists s.go (rows_of (length s.go)) front)
    ∙ lists_back place 0 s.lists)

-- the lines give the script back
script_back : (s : Script) → IsValid s → Collects (script_forms s) s
script_back s v =
    let made = made_script s v in
    let front = no_commands s v in
    record {
      version = sym (ap (λ (x : Known). x.version) made.same);
      cpus = sym (ap (λ (x : Known). x.cpus) made.same);
      frames = sym (ap (λ (x : Known). x.frames) made.same);
      marks = v.sound.kernel ∙ sym (ap (λ (x : Known). x.frames) made.same);
      kernel = λ frame. rw (ap (λ (x : Known). x.kernel) made.same) (marks_are s.layout.kernel frame);
      recovery = rw (ap (λ (x : Known). x.recovery) made.same) refl;
      early = rw (ap (λ (x : Known). x.early) made.same) refl;
      files = sym (ap (λ (x : Known). x.files) made.same);
      procs = sym (ap (λ (x : Known). x.procs) made.same);
      threads = sym (ap (λ (x : Known). x.threads) made.same);
      pages = sym (ap (λ (x : Known). x.pages) made.same);
      trans = sym (ap (λ (x : Known). x.trans) made.same);
      locked = sym (ap (λ (x : Known). x.locked) made.same ∙ marks_are_all s.layout v.sound);
      twins = sym (ap (λ (x : Known). x.twins) made.same);
      guests = sym (ap (λ (x : Known). x.guests) made.same);
      lists = lists_said s v made front;
      go = sym (ap (λ (x : Known). x.go) made.same);
    }

ended : (fs : List ScriptLine) → IsEnded (fs ++ forms.End ∷ [])
ended fs = let at : length (fs ++ forms.End ∷ []) - 1 ≡ length fs = omega (arith, length_push fs forms.End) in rw at (slice_get-append_at fs forms.End)

reads_back : (s : Script) → IsValid s → length (script_text s) ≤ script_limit → Reads (script_text s) s
reads_back s v short =
    let made = made_script s v in record {
      short = short;
      lines = lines_at 1 (script_forms s);
      numbered = text_read (script_forms s) made.whole;
      script = record { forms = script_forms s; each = forms_read 1 (script_forms s); clean = made.clean; ended = ended (layout_forms s.layout ++ numbered list_forms 0 s.lists ++ counted (go_row s.go) (rows_of (length s.go))); collects = script_back s v };
    }

-- the text of a valid script is read as the script, and as no other
pub round_trip : (s : Script) → IsValid s → length (script_text s) ≤ script_limit → IsTextOf (script_text s) s
round_trip s v short =
    let reads = reads_back s v short in record { reads = reads; only = λ t k. one_script (script_text s) s t reads k }
