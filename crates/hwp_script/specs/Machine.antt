-- The machine of all generated scripts: four processors, eight threads, forty pages and eighty translations.
use Rattle.std.specs.Prelude.{ℕ, zero, suc, ◌+◌, ◌/◌, ◌%◌, ◌==◌, Bool, true, false, List, [], ◌∷◌, ◌++◌, Option, None, if◌then◌else◌}
use Rattle.hwp_script_read.specs.hwp_geom.declared.Layout.{Layout}
use Rattle.hwp_script_read.specs.hwp_geom.declared.Version.TheVariants as versions
use Rattle.hwp_script_read.specs.hwp_geom.declared.PageKind.{PageKind}
use Rattle.hwp_script_read.specs.hwp_geom.declared.PageKind.TheVariants as kinds
use Rattle.hwp_script_read.specs.hwp_geom.declared.ThreadDecl.{ThreadDecl}
use Rattle.hwp_script_read.specs.hwp_geom.declared.TransDecl.{TransDecl}
use Rattle.hwp_script_read.specs.hwp_geom.declared.VSlot.{VSlot}

-- what the numbers below n make, in their order
unfoldable pub first : {A : Type 0} → (ℕ → A) → ℕ → List A
first make zero = []
first make (suc n) = first make n ++ make n ∷ []

-- frame 0 alone is the kernel's
abbrev pub is_kernel : ℕ → Bool
is_kernel frame = frame == 0

-- thread i is of process i mod 4, runs on the processor of the same number, and has a handler
abbrev pub thread_decl : ℕ → ThreadDecl
thread_decl i = record { process = record { 0 = i % 4 }; cpu = record { 0 = i % 4 }; handler = true }

-- an even page is anonymous; the others are of file 0 and file 1 in turn, and their words are their number at opening
abbrev pub page_kind : ℕ → PageKind
page_kind q = if q % 2 == 0 then kinds.Anon else kinds.File (record { 0 = q / 2 % 2 }) q

-- translation v leads to page v mod 40; each process has twenty
abbrev pub trans_decl : ℕ → TransDecl
trans_decl v = record { process = record { 0 = (v + v / 40) % 4 }; page = record { 0 = v % 40 } }

-- no page is locked
abbrev pub is_locked : ℕ → Bool
is_locked page = false

-- no translation has a twin
abbrev pub twin_decl : ℕ → Option VSlot
twin_decl slot = None

-- no process is a guest
abbrev pub is_guest : ℕ → Bool
is_guest process = false

-- the machine, of version One: recovery is on, and no process is killed early
abbrev pub machine : Layout
machine = record {
  version = versions.One;
  cpus = 4;
  frames = 256;
  kernel = first is_kernel 256;
  recovery = true;
  early = false;
  files = 2;
  procs = 4;
  threads = first thread_decl 8;
  pages = first page_kind 40;
  trans = first trans_decl 80;
  locked = first is_locked 40;
  twins = first twin_decl 80;
  guests = first is_guest 4;
}
