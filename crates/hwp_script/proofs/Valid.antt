-- The script that a seed gives is valid.
use Rattle.std.proofs.Common.{◌≡◌, ℕ, zero, suc, ◌+◌, ◌*◌, ◌/◌, ◌%◌, ◌==◌, ◌<◌, Bool, true, false, List, [], ◌∷◌, ◌++◌, Option, None, Some, All, length, get_or, take, slice_get, sum_by, count_by, if◌then◌else◌, refl, sym, ap, ◌∙◌, subst, arith}
use Rattle.std.proofs.Math.Nat.{mod-lt}
use Rattle.std.proofs.lemmas.List.{length-append}
use Rattle.std.proofs.lemmas.List.Elements.{All-append, All-cons, All-head, All-nil, All-tail}
use Rattle.std.proofs.lemmas.Option.{get_or_from_slice_get, slice_get_within}
use Rattle.std.proofs.lemmas.Bool.{or_from}
use Rattle.std.specs.List.{list_any}
use Rattle.std.specs.Option.{option_map_or}
use Rattle.std.proofs.lemmas.List.Sums.{sum_by_push}
use Rattle.hwp_script_read.specs.hwp_geom.declared.Layout.{Layout}
use Rattle.hwp_script_read.specs.hwp_geom.declared.PageKind.TheVariants as kinds
use Rattle.hwp_script_read.specs.hwp_geom.declared.ThreadDecl.{ThreadDecl}
use Rattle.hwp_script_read.specs.hwp_geom.declared.TransDecl.{TransDecl}
use Rattle.hwp_script_read.specs.hwp_geom.declared.VSlot.{VSlot}
use Rattle.hwp_script_read.specs.hwp_geom.Layout.{IsBacked, IsSound, IsTwinDeclared, is_slot, is_twin}
use Rattle.hwp_script_read.specs.hwp_script_lines.declared.Command.{Command}
use Rattle.hwp_script_read.specs.hwp_script_lines.declared.Command.TheVariants as commands
use Rattle.hwp_script_read.specs.hwp_script_lines.declared.Go.{Go}
use Rattle.hwp_script_read.specs.hwp_script_words.Commands.{IsNewer}
use Rattle.hwp_script_read.specs.hwp_script_words.Forks.{is_fork_of, is_wrong_fork, slot_named}
use Rattle.hwp_script_read.specs.hwp_script_words.Valid.{AreForksFit, AreLists, HasFill, HasWords, IsCommandOf, IsEachForkedOnce, IsValid, NamesNoTwin}
use Rattle.hwp_script_read.proofs.TallyLaws.{one_fork, sum-weight, total, total-sum, weight}
use Rattle.hwp_script_read.proofs.TwinLaws.{IsNone, none_at, none_fit}
use Rattle.hwp_script_read.proofs.GuestLaws.{IsNot, layout_fit, nobody_fit}
use Rattle.rand_pcg.specs.Lcg.{Lcg}
use Rattle.hwp_script.specs.Commands.{command}
use Rattle.hwp_script.specs.Draws.{word}
use Rattle.hwp_script.specs.Generated.{commands_of, generated, go, lists, many, seeded}
use Rattle.hwp_script.specs.Machine.{is_guest, is_kernel, is_locked, machine, page_kind, thread_decl, trans_decl, twin_decl}
use Rattle.hwp_script.proofs.CommandFits.{command-fits}
use Rattle.hwp_script.proofs.Made.{first-all, first-length, many-all, many-length}

-- both versions have the command
abbrev IsInBoth : Command → Type 0
IsInBoth c = IsNewer c → ⊥

-- ---- the machine

backed : (q : ℕ) → IsBacked machine (page_kind q)
backed q = which (q % 2 == 0)
  where
    which : (t : Bool) → IsBacked machine (if t then kinds.Anon else kinds.File (record { 0 = q / 2 % 2 }) q)
    which true = tt
    which false = mod-lt (q / 2) (omega arith)

filled : (q : ℕ) → q < 40 → HasFill (page_kind q)
filled q few = which (q % 2 == 0)
  where
    which : (t : Bool) → HasFill (if t then kinds.Anon else kinds.File (record { 0 = q / 2 % 2 }) q)
    which true = tt
    which false = omega arith

sound : IsSound machine
sound = record {
  some_cpu = omega arith;
  cpus = omega arith;
  some_frame = omega arith;
  frames = omega arith;
  kernel = first-length is_kernel 256;
  files = omega arith;
  procs = omega arith;
  threads = let is = first-length thread_decl 8 in omega arith;
  pages = let is = first-length page_kind 40 in omega arith;
  trans = let is = first-length trans_decl 80 in omega arith;
  within = record {
    cpus = omega arith;
    frames = omega arith;
    pages = let is = first-length page_kind 40 in omega arith;
    trans = let is = first-length trans_decl 80 in omega arith;
  };
  locked = first-length is_locked 40 ∙ sym (first-length page_kind 40);
  twins = first-length twin_decl 80 ∙ sym (first-length trans_decl 80);
  guests = first-length is_guest 4;
  twin_names = first-all (IsTwinDeclared machine) twin_decl 80 (λ v less. tt);
  thread_names = first-all (λ (t : ThreadDecl). (t.process.0 < 4) × (t.cpu.0 < 4)) thread_decl 8 (λ i less. (mod-lt i (omega arith), mod-lt i (omega arith)));
  page_names = first-all (IsBacked machine) page_kind 40 (λ q less. backed q);
  trans_names = first-all (λ (t : TransDecl). (t.process.0 < 4) × (t.page.0 < length machine.pages)) trans_decl 80
      (λ v less. (mod-lt (v + v / 40) (omega arith), subst (λ (n : ℕ). v % 40 < n) (sym (first-length page_kind 40)) (mod-lt v (omega arith))));
}

-- ---- guests, twins and forks

no-guests : All IsNot machine.guests
no-guests = first-all IsNot is_guest 4 (λ p less. refl)

no-twins : All IsNone machine.twins
no-twins = first-all IsNone twin_decl 80 (λ v less. refl)

no-twin : (v : VSlot) (ts : List (Option VSlot)) → All IsNone ts → list_any (is_slot v) ts ≡ false
no-twin v [] h = refl
no-twin v (t ∷ ts) h = or_from (is_slot v t) (list_any (is_slot v) ts) (ap (is_slot v) (All-head IsNone t ts h)) (no-twin v ts (All-tail IsNone t ts h))

names-none : (o : Option VSlot) → option_map_or (is_twin machine) o false ≡ false
names-none None = refl
names-none (Some v) = no-twin v machine.twins no-twins

own-slots : (lists : List (List Command)) → All (All (NamesNoTwin machine)) lists
own-slots lists = λ i d within. λ j c inside. names-none (slot_named (get_or (get_or lists i d) j c))

-- a command that both versions have is no fork
no-fork : (cpu : ℕ) (before : List Command) (c : Command) → IsInBoth c → is_wrong_fork machine cpu before c ≡ false
no-fork cpu before (commands.Fork t p) h = absurd (h tt)
no-fork cpu before c h = refl

forks-none : (process : ℕ) (c : Command) → IsInBoth c → one_fork process c ≡ 0
forks-none process (commands.Fork t p) h = absurd (h tt)
forks-none process c h = refl

list-none : (process : ℕ) (list : List Command) → All IsInBoth list → weight (one_fork process) list ≡ 0
list-none process [] h = refl
list-none process (c ∷ cs) h = omega (arith, forks-none process c (All-head IsInBoth c cs h), list-none process cs (All-tail IsInBoth c cs h))

lists-none-forked : (process : ℕ) (lists : List (List Command)) → All (All IsInBoth) lists → total (one_fork process) lists ≡ 0
lists-none-forked process [] h = refl
lists-none-forked process (l ∷ ls) h =
    omega (arith, list-none process l (All-head (All IsInBoth) l ls h), lists-none-forked process ls (All-tail (All IsInBoth) l ls h))

forked-once : (lists : List (List Command)) → All (All IsInBoth) lists → IsEachForkedOnce lists
forked-once lists h = λ process. omega (arith, total-sum (one_fork process) (count_by (is_fork_of process)) (sum-weight (one_fork process)) lists, lists-none-forked process lists h)

member : {A : Type 0} (P : A → Type 0) (xs : List A) (i : ℕ) (x : A) → All P xs → slice_get xs i ≡ Some x → P x
member P xs i x h there = subst P (get_or_from_slice_get xs i x x there) (h i x (slice_get_within xs i x there))

forks-fit : (lists : List (List Command)) → All (All IsInBoth) lists → (cpu : ℕ) (list : List Command) → slice_get lists cpu ≡ Some list → AreForksFit machine cpu list
forks-fit lists h cpu list there = λ n c at. no-fork cpu (take n list) c (member IsInBoth list n c (member (All IsInBoth) lists cpu list h there) at)

-- ---- lists of commands

one-list : (cpu : ℕ) → cpu < 4 → (g : Lcg) → All (IsCommandOf machine cpu) (commands_of cpu g).0
one-list cpu few g = many-all (IsCommandOf machine cpu) (command cpu) (λ h. (command-fits cpu few h).0) 1000 g

one-words : (cpu : ℕ) → cpu < 4 → (g : Lcg) → All HasWords (commands_of cpu g).0
one-words cpu few g = many-all HasWords (command cpu) (λ h. (command-fits cpu few h).1) 1000 g

one-older : (cpu : ℕ) → cpu < 4 → (g : Lcg) → All IsInBoth (commands_of cpu g).0
one-older cpu few g = many-all IsInBoth (command cpu) (λ h. (command-fits cpu few h).2) 1000 g

-- a list more, for the next processor
list-more : (cpu n : ℕ) (before : List (List Command)) (list : List Command) → length before ≡ n → AreLists machine cpu before → All (IsCommandOf machine (cpu + n)) list → AreLists machine cpu (before ++ list ∷ [])
list-more cpu n [] list is are all = (subst (λ (m : ℕ). All (IsCommandOf machine m) list) (let none : 0 ≡ n = is in let same : cpu + n ≡ cpu = omega arith in same) all, tt)
list-more cpu zero (x ∷ xs) list is are all = absurd (let none : suc (length xs) ≡ zero = is in omega arith)
list-more cpu (suc n) (x ∷ xs) list is are all =
    (are.0, list-more (cpu + 1) n xs list (let one : suc (length xs) ≡ suc n = is in omega arith) are.1 (subst (λ (m : ℕ). All (IsCommandOf machine m) list) (let same : cpu + suc n ≡ cpu + 1 + n = omega arith in same) all))

record AreDrawn (n : ℕ) (g : Lcg) : Type 0 where
  count : length (lists n g).0 ≡ n
  are : AreLists machine 0 (lists n g).0
  few : sum_by length (lists n g).0 ≡ 1000 * n
  words : All (All HasWords) (lists n g).0
  older : All (All IsInBoth) (lists n g).0

drawn-none : (g : Lcg) → AreDrawn zero g
unfolding lists
drawn-none g = record { count = refl; are = tt; few = refl; words = All-nil (All HasWords); older = All-nil (All IsInBoth) }

drawn-more : (n : ℕ) → n < 4 → (g : Lcg) → AreDrawn n g → AreDrawn (suc n) g
unfolding lists
drawn-more n few g before =
    let list = (commands_of n (lists n g).1).0 in
    record {
      count = let more : length ((lists n g).0 ++ list ∷ []) ≡ length (lists n g).0 + 1 = length-append (lists n g).0 (list ∷ []) in let was : length (lists n g).0 ≡ n = before.count in omega arith;
      are = list-more 0 n (lists n g).0 list before.count before.are (subst (λ (m : ℕ). All (IsCommandOf machine m) list) (let same : n ≡ 0 + n = omega arith in same) (one-list n few (lists n g).1));
      few = let more : sum_by length ((lists n g).0 ++ list ∷ []) ≡ sum_by length (lists n g).0 + length list = sum_by_push length (lists n g).0 list in
          let was : sum_by length (lists n g).0 ≡ 1000 * n = before.few in
          let long : length list ≡ 1000 = many-length (command n) 1000 (lists n g).1 in
          omega arith;
      words = All-append (All HasWords) (lists n g).0 (list ∷ []) before.words (All-cons (All HasWords) list [] (one-words n few (lists n g).1) (All-nil (All HasWords)));
      older = All-append (All IsInBoth) (lists n g).0 (list ∷ []) before.older (All-cons (All IsInBoth) list [] (one-older n few (lists n g).1) (All-nil (All IsInBoth)));
    }

all-drawn : (g : Lcg) → AreDrawn 4 g
all-drawn g = drawn-more 3 (omega arith) g (drawn-more 2 (omega arith) g (drawn-more 1 (omega arith) g (drawn-more 0 (omega arith) g (drawn-none g))))

generated-valid : (seed : ℕ) → IsValid (generated seed)
generated-valid seed =
    let drawn = all-drawn (seeded seed) in
    let rest = (lists 4 (seeded seed)).1 in
    record {
      older = λ one. record { unlocked = first-all (λ (l : Bool). l ≡ false) is_locked 40 (λ q less. refl); untwinned = no-twins; unguested = no-guests; commands = drawn.older };
      sound = sound;
      one_each = drawn.count;
      lists = drawn.are;
      few = let is = drawn.few in omega arith;
      go = many-all (λ (w : Go). w.cpu.0 < 4) go (λ h. mod-lt (word h) (omega arith)) 20000 rest;
      few_go = let is = many-length go 20000 rest in omega arith;
      fills = first-all HasFill page_kind 40 filled;
      words = drawn.words;
      twins = none_fit machine (λ v. none_at machine.twins v.0 no-twins);
      guests = layout_fit machine (nobody_fit machine.threads machine.guests no-guests);
      own = own-slots (lists 4 (seeded seed)).0;
      forks = forks-fit (lists 4 (seeded seed)).0 drawn.older;
      once = forked-once (lists 4 (seeded seed)).0 drawn.older;
    }

-- what was drawn is the script of the seed
pub drawn-valid : (seed : ℕ) (layout : Layout) (drawn : List (List Command)) (words : List Go) (g h : Lcg) → layout ≡ machine → g ≡ seeded seed → (drawn, h) ≡ lists 4 g → words ≡ (many go 20000 h).0
    → IsValid (record { layout = layout; lists = drawn; go = words })
drawn-valid seed layout drawn words g h layout_is g_is drawn_is words_is =
    let both : (drawn, h) ≡ lists 4 (seeded seed) = drawn_is ∙ ap (lists 4) g_is in
    let later : words ≡ (many go 20000 (lists 4 (seeded seed)).1).0 = words_is ∙ ap (λ (p : List (List Command) × Lcg). (many go 20000 p.1).0) both in
    subst IsValid (sym (ap (λ (l : Layout). record { layout = l; lists = drawn; go = words }) layout_is
    ∙ ap (λ (p : List (List Command) × Lcg). record { layout = machine; lists = p.0; go = words }) both
    ∙ ap (λ (w : List Go). record { layout = machine; lists = (lists 4 (seeded seed)).0; go = w }) later)) (generated-valid seed)
