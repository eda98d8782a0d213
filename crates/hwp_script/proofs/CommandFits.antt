-- The commands that are drawn name what the machine declares.
use Rattle.std.proofs.Common.{◌≡◌, ℕ, ◌+◌, ◌-◌, ◌*◌, ◌/◌, ◌%◌, ◌^◌, ◌==◌, ◌<◌, ◌≤◌, ◌⊎◌, inl, inr, Bool, true, false, Option, Some, nat_lt, if◌then◌else◌, slice_get, IsSomeAnd, sym, ap, ◌∙◌, subst, arith}
use Rattle.std.proofs.Math.Nat.{div-le_self, mod-lt}
use Rattle.std.proofs.lemmas.Bool.{cases_lt, lt-ltb, le-ltb}
use Rattle.std.proofs.lemmas.Nat.{or_of_32}
use Rattle.hwp_script_read.specs.hwp_geom.declared.Frame.{Frame}
use Rattle.hwp_script_read.specs.hwp_geom.declared.PageKind.TheVariants as kinds
use Rattle.hwp_script_read.specs.hwp_geom.declared.Thread.{Thread}
use Rattle.hwp_script_read.specs.hwp_geom.declared.VSlot.{VSlot}
use Rattle.hwp_script_read.specs.hwp_script_lines.declared.Command.{Command}
use Rattle.hwp_script_read.specs.hwp_script_lines.declared.Command.TheVariants as commands
use Rattle.hwp_script_read.specs.hwp_script_words.Commands.{IsNewer}
use Rattle.hwp_script_read.specs.hwp_script_words.Valid.{HasWords, IsAccess, IsAnon, IsCommandOf, IsFile}
use Rattle.rand_pcg.specs.Lcg.{Lcg}
use Rattle.hwp_script.specs.Commands.{accessed, called, chosen, chosen_access, chosen_change, chosen_failure, command, frame_at, marred, numbered, page_at, scrub_of, slot_at, stored, thread_at}
use Rattle.hwp_script.specs.Draws.{after, drawn, word}
use Rattle.hwp_script.specs.Machine.{machine, page_kind, thread_decl, trans_decl}
use Rattle.hwp_script.proofs.Made.{first-get, first-length}

some-and : {A : Type 0} (P : A → Type 0) (o : Option A) (x : A) → o ≡ Some x → P x → IsSomeAnd o P
some-and P o x is holds = subst (λ (q : Option _). IsSomeAnd q P) (sym is) holds

if-both : {A : Type 0} (P : A → Type 0) (t : Bool) (a b : A) → P a → P b → P (if t then a else b)
if-both P true a b x y = x
if-both P false a b x y = y

small-word : (g : Lcg) → word g < 2 ^ 32
small-word g = or_of_32 _ _ (omega (arith, div-le_self, mod-lt)) (mod-lt _ (omega arith))

word-fits : (g : Lcg) → word g < 2 ^ 64
word-fits g = let small : word g < 2 ^ 32 = small-word g in omega (arith, small)

drawn-below : (bound : ℕ) (g : Lcg) → 0 < bound → drawn bound g < bound
drawn-below bound g some = mod-lt (word g) some

-- the command is one of the processor, its words are of 64 bits, and every version has it
abbrev pub Fits : ℕ → Command → Type 0
Fits cpu c = IsCommandOf machine cpu c × HasWords c × (IsNewer c → ⊥)

-- ---- threads and translations

record IsSlot (cpu place : ℕ) : Type 0 where
  v : ℕ
  slot_is : slot_at cpu place ≡ record { 0 = v }
  inside : v < 80
  process : (v + v / 40) % 4 ≡ cpu

slot-is : (cpu place : ℕ) → cpu < 4 → place < 20 → IsSlot cpu place
slot-is cpu place few within = which (cases_lt place 10)
  where
    early : VSlot
    early = record { 0 = cpu + 4 * place }

    late : VSlot
    late = record { 0 = 40 + (cpu + 3) % 4 + 4 * (place - 10) }

    which : (place < 10) ⊎ (10 ≤ place) → IsSlot cpu place
    which (inl less) = record {
      v = cpu + 4 * place;
      slot_is = ap (λ (t : Bool). if t then early else late) (lt-ltb place 10 less);
      inside = omega arith;
      process = omega arith;
    }
    which (inr more) = record {
      v = 40 + (cpu + 3) % 4 + 4 * (place - 10);
      slot_is = ap (λ (t : Bool). if t then early else late) (le-ltb place 10 more);
      inside = omega arith;
      process = omega arith;
    }

access-of : (cpu n place : ℕ) → cpu < 4 → n < 2 → place < 20 → IsAccess machine cpu (thread_at cpu n) (slot_at cpu place)
access-of cpu n place few two within =
    let s = slot-is cpu place few within in
    let own : (cpu + 4 * n) % 4 ≡ cpu = omega arith in
    subst (λ (v : VSlot). IsAccess machine cpu (thread_at cpu n) v) (sym s.slot_is)
    (some-and _ _ (thread_decl (cpu + 4 * n)) (first-get thread_decl 8 (cpu + 4 * n) (omega arith))
    (own, some-and _ _ (trans_decl s.v) (first-get trans_decl 80 s.v s.inside) (ap (λ (n : ℕ). record { 0 = n }) (s.process ∙ sym own))))

-- ---- commands, kind by kind

accessed-fits : (make : Thread → VSlot → ℕ → Command) → ((cpu : ℕ) (thread : Thread) (slot : VSlot) (line : ℕ) → IsAccess machine cpu thread slot → line < 64 → Fits cpu (make thread slot line)) → (cpu : ℕ) (g : Lcg) → cpu < 4 → Fits cpu (accessed make cpu g).0
accessed-fits make fits cpu g few =
    fits cpu (thread_at cpu (drawn 2 g)) (slot_at cpu (drawn 20 (after g))) (drawn 64 (after (after g)))
    (access-of cpu (drawn 2 g) (drawn 20 (after g)) few (drawn-below 2 g (omega arith)) (drawn-below 20 (after g) (omega arith))) (drawn-below 64 (after (after g)) (omega arith))

stored-fits : (cpu : ℕ) (g : Lcg) → cpu < 4 → Fits cpu (stored cpu g).0
stored-fits cpu g few =
    ((access-of cpu (drawn 2 g) (drawn 20 (after g)) few (drawn-below 2 g (omega arith)) (drawn-below 20 (after g) (omega arith)), drawn-below 64 (after (after g)) (omega arith)), word-fits (after (after (after g))), λ newer. newer)

called-fits : (cpu : ℕ) (g : Lcg) → cpu < 4 → Fits cpu (called cpu g).0
called-fits cpu g few =
    let two = drawn-below 2 g (omega arith) in
    let three = drawn-below 3 (after g) (omega arith) in
    let own : (cpu + 4 * drawn 2 g) % 4 ≡ cpu = omega arith in (
      some-and _ _ (thread_decl (cpu + 4 * drawn 2 g)) (first-get thread_decl 8 (cpu + 4 * drawn 2 g) (omega arith)) own,
      (omega arith, omega arith, omega arith, omega arith, omega arith),
      λ newer. newer,
    )

marred-fits : (make : Frame → ℕ → Command) → ((cpu frame line : ℕ) → frame < 64 → line < 64 → Fits cpu (make (frame_at frame) line)) → (cpu : ℕ) (g : Lcg) → Fits cpu (marred make g).0
marred-fits make fits cpu g = fits cpu (drawn 64 g) (drawn 64 (after g)) (drawn-below 64 g (omega arith)) (drawn-below 64 (after g) (omega arith))

numbered-fits : (make : ℕ → Command) (bound cpu : ℕ) → 0 < bound → ((n : ℕ) → n < bound → Fits cpu (make n)) → (g : Lcg) → Fits cpu (numbered make bound g).0
numbered-fits make bound cpu some fits g = fits (drawn bound g) (drawn-below bound g some)

-- a page with an odd number is of a file, and one with an even number is anonymous
odd-file : (n : ℕ) → n < 20 → IsSomeAnd (slice_get machine.pages (2 * n + 1)) IsFile
odd-file n few =
    let odd : ((2 * n + 1) % 2 == 0) ≡ false = ap (λ (m : ℕ). m == 0) (let one : (2 * n + 1) % 2 ≡ 1 = omega arith in one) in
    some-and IsFile _ (page_kind (2 * n + 1)) (first-get page_kind 40 (2 * n + 1) (omega arith))
    (subst (λ (t : Bool). IsFile (if t then kinds.Anon else kinds.File (record { 0 = (2 * n + 1) / 2 % 2 }) (2 * n + 1))) (sym odd) tt)

even-anon : (n : ℕ) → n < 20 → IsSomeAnd (slice_get machine.pages (2 * n)) IsAnon
even-anon n few =
    let even : (2 * n % 2 == 0) ≡ true = ap (λ (m : ℕ). m == 0) (let none : 2 * n % 2 ≡ 0 = omega arith in none) in
    some-and IsAnon _ (page_kind (2 * n)) (first-get page_kind 40 (2 * n) (omega arith))
    (subst (λ (t : Bool). IsAnon (if t then kinds.Anon else kinds.File (record { 0 = 2 * n / 2 % 2 }) (2 * n))) (sym even) tt)

module _ (cpu k : ℕ) (g : Lcg) (few : cpu < 4) where
  -- of the two, the one that a bound chooses
  either : (n : ℕ) (a b : Command × Lcg) → Fits cpu a.0 → Fits cpu b.0 → Fits cpu (if nat_lt k n then a else b).0
  either n a b x y = if-both (λ (p : Command × Lcg). Fits cpu p.0) (nat_lt k n) a b x y

  accesses : Fits cpu (chosen_access cpu k g).0
  accesses =
      either 45 (accessed commands.Load cpu g) (if nat_lt k 70 then stored cpu g else accessed commands.Fetch cpu g) (accessed-fits commands.Load (λ c t v l of less. ((of, less), tt, λ newer. newer)) cpu g few)
      (either 70 (stored cpu g) (accessed commands.Fetch cpu g) (stored-fits cpu g few) (accessed-fits commands.Fetch (λ c t v l of less. ((of, less), tt, λ newer. newer)) cpu g few))

  changes : Fits cpu (chosen_change cpu k g).0
  changes = either 78 (numbered (λ (n : ℕ). commands.Free (record { 0 = n })) 80 g)
      (if nat_lt k 81 then (numbered (λ (n : ℕ). commands.Drop (page_at n)) 40 g) else (if nat_lt k 84 then (numbered (λ (n : ℕ). commands.Sync (page_at (2 * n + 1))) 20 g) else (if nat_lt k 87 then (numbered (λ (n : ℕ). commands.Out (page_at (2 * n))) 20 g) else (if nat_lt k 89 then (numbered (λ (n : ℕ). commands.Fsync (record { 0 = n })) 2 g) else (called cpu g)))))
      (numbered-fits (λ (n : ℕ). commands.Free (record { 0 = n })) 80 cpu (omega arith) (λ n less. (subst (λ (m : ℕ). n < m) (sym (first-length trans_decl 80)) less, tt, λ newer. newer)) g)
      (either 81 (numbered (λ (n : ℕ). commands.Drop (page_at n)) 40 g)
      (if nat_lt k 84 then (numbered (λ (n : ℕ). commands.Sync (page_at (2 * n + 1))) 20 g) else (if nat_lt k 87 then (numbered (λ (n : ℕ). commands.Out (page_at (2 * n))) 20 g) else (if nat_lt k 89 then (numbered (λ (n : ℕ). commands.Fsync (record { 0 = n })) 2 g) else (called cpu g))))
      (numbered-fits (λ (n : ℕ). commands.Drop (page_at n)) 40 cpu (omega arith) (λ n less. (subst (λ (m : ℕ). n < m) (sym (first-length page_kind 40)) less, tt, λ newer. newer)) g)
      (either 84 (numbered (λ (n : ℕ). commands.Sync (page_at (2 * n + 1))) 20 g)
      (if nat_lt k 87 then (numbered (λ (n : ℕ). commands.Out (page_at (2 * n))) 20 g) else (if nat_lt k 89 then (numbered (λ (n : ℕ). commands.Fsync (record { 0 = n })) 2 g) else (called cpu g)))
      (numbered-fits (λ (n : ℕ). commands.Sync (page_at (2 * n + 1))) 20 cpu (omega arith) (λ n less. (odd-file n less, tt, λ newer. newer)) g)
      (either 87 (numbered (λ (n : ℕ). commands.Out (page_at (2 * n))) 20 g)
      (if nat_lt k 89 then (numbered (λ (n : ℕ). commands.Fsync (record { 0 = n })) 2 g) else (called cpu g))
      (numbered-fits (λ (n : ℕ). commands.Out (page_at (2 * n))) 20 cpu (omega arith) (λ n less. (even-anon n less, tt, λ newer. newer)) g)
      (either 89 (numbered (λ (n : ℕ). commands.Fsync (record { 0 = n })) 2 g)
      (called cpu g)
      (numbered-fits (λ (n : ℕ). commands.Fsync (record { 0 = n })) 2 cpu (omega arith) (λ n less. (less, tt, λ newer. newer)) g)
      (called-fits cpu g few)))))

  failures : Fits cpu (chosen_failure k g).0
  failures = either 93 (marred commands.Bad g)
      (if nat_lt k 94 then (marred commands.Weak g) else (if nat_lt k 95 then (numbered scrub_of 4 g) else (if nat_lt k 97 then (numbered (λ (n : ℕ). commands.Inject (frame_at n)) 64 g) else (if nat_lt k 99 then (numbered (λ (n : ℕ). commands.Soft (frame_at n)) 64 g) else (numbered (λ (n : ℕ). commands.Unpoison (frame_at n)) 64 g)))))
      (marred-fits commands.Bad (λ c f l frame line. ((omega arith, line), tt, λ newer. newer)) cpu g)
      (either 94 (marred commands.Weak g)
      (if nat_lt k 95 then (numbered scrub_of 4 g) else (if nat_lt k 97 then (numbered (λ (n : ℕ). commands.Inject (frame_at n)) 64 g) else (if nat_lt k 99 then (numbered (λ (n : ℕ). commands.Soft (frame_at n)) 64 g) else (numbered (λ (n : ℕ). commands.Unpoison (frame_at n)) 64 g))))
      (marred-fits commands.Weak (λ c f l frame line. ((omega arith, line), tt, λ newer. newer)) cpu g)
      (either 95 (numbered scrub_of 4 g)
      (if nat_lt k 97 then (numbered (λ (n : ℕ). commands.Inject (frame_at n)) 64 g) else (if nat_lt k 99 then (numbered (λ (n : ℕ). commands.Soft (frame_at n)) 64 g) else (numbered (λ (n : ℕ). commands.Unpoison (frame_at n)) 64 g)))
      (numbered-fits scrub_of 4 cpu (omega arith) (λ n less. ((omega arith, omega arith), tt, λ newer. newer)) g)
      (either 97 (numbered (λ (n : ℕ). commands.Inject (frame_at n)) 64 g)
      (if nat_lt k 99 then (numbered (λ (n : ℕ). commands.Soft (frame_at n)) 64 g) else (numbered (λ (n : ℕ). commands.Unpoison (frame_at n)) 64 g))
      (numbered-fits (λ (n : ℕ). commands.Inject (frame_at n)) 64 cpu (omega arith) (λ n less. (omega arith, tt, λ newer. newer)) g)
      (either 99 (numbered (λ (n : ℕ). commands.Soft (frame_at n)) 64 g)
      (numbered (λ (n : ℕ). commands.Unpoison (frame_at n)) 64 g)
      (numbered-fits (λ (n : ℕ). commands.Soft (frame_at n)) 64 cpu (omega arith) (λ n less. (omega arith, tt, λ newer. newer)) g)
      (numbered-fits (λ (n : ℕ). commands.Unpoison (frame_at n)) 64 cpu (omega arith) (λ n less. (omega arith, tt, λ newer. newer)) g)))))

  chosen-fits : Fits cpu (chosen cpu k g).0
  chosen-fits = either 74 (chosen_access cpu k g) (if nat_lt k 91 then chosen_change cpu k g else chosen_failure k g) accesses (either 91 (chosen_change cpu k g) (chosen_failure k g) changes failures)

pub command-fits : (cpu : ℕ) → cpu < 4 → (g : Lcg) → Fits cpu (command cpu g).0
command-fits cpu few g = chosen-fits cpu (drawn 100 g) (after g) few
