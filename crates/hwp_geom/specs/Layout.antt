-- When a layout is sound, which pages of it are locked, which translations have a twin, and which processes are guests.
use Rattle.std.specs.Prelude.{◌≡◌, ◌<◌, ◌≤◌, ◌==◌, Bool, false, length, get_or, All, Option, None, Some, is_some}
use Rattle.std.specs.List.{list_any}
use Rattle.hwp_geom.specs.declared.layout.Layout.{Layout}
use Rattle.hwp_geom.specs.declared.layout.ThreadDecl.{ThreadDecl}
use Rattle.hwp_geom.specs.declared.layout.TransDecl.{TransDecl}
use Rattle.hwp_geom.specs.declared.layout.PageKind.{PageKind}
use Rattle.hwp_geom.specs.declared.layout.PageKind.TheVariants.{Anon, File}
use Rattle.hwp_geom.specs.declared.numbers.Page.{Page}
use Rattle.hwp_geom.specs.declared.numbers.Proc.{Proc}
use Rattle.hwp_geom.specs.declared.numbers.VSlot.{VSlot}
use Rattle.hwp_geom.specs.Limits.{cpu_limit, frame_limit, file_limit, process_limit, thread_limit, page_limit, translation_limit, cpu_limit_of, frame_limit_of, page_limit_of, translation_limit_of}

-- the file behind a page, if there is one, is declared
abbrev pub IsBacked : Layout → PageKind → Type 0
IsBacked layout Anon = Unit {0}
IsBacked layout (File file fill) = file.0 < layout.files

-- the twin of a translation, if it has one, is declared
abbrev pub IsTwinDeclared : Layout → Option VSlot → Type 0
IsTwinDeclared layout None = Unit {0}
IsTwinDeclared layout (Some twin) = twin.0 < length layout.trans

-- the numbers are within the limits of the layout's version
pub record IsWithin (layout : Layout) : Type 0 where
  pub cpus : layout.cpus ≤ cpu_limit_of layout.version
  pub frames : layout.frames ≤ frame_limit_of layout.version
  pub pages : length layout.pages ≤ page_limit_of layout.version
  pub trans : length layout.trans ≤ translation_limit_of layout.version

-- the numbers are within the limits, what a declaration names is declared, and of each page it is said whether it is locked, of each translation
-- which twin it has, if any, and of each process whether it is a guest
pub record IsSound (layout : Layout) : Type 0 where
  pub some_cpu : 1 ≤ layout.cpus
  pub cpus : layout.cpus ≤ cpu_limit
  pub some_frame : 1 ≤ layout.frames
  pub frames : layout.frames ≤ frame_limit
  pub kernel : length layout.kernel ≡ layout.frames
  pub files : layout.files ≤ file_limit
  pub procs : layout.procs ≤ process_limit
  pub threads : length layout.threads ≤ thread_limit
  pub pages : length layout.pages ≤ page_limit
  pub trans : length layout.trans ≤ translation_limit
  pub thread_names : All (λ (t : ThreadDecl). (t.process.0 < layout.procs) × (t.cpu.0 < layout.cpus)) layout.threads
  pub page_names : All (IsBacked layout) layout.pages
  pub trans_names : All (λ (t : TransDecl). (t.process.0 < layout.procs) × (t.page.0 < length layout.pages)) layout.trans
  pub within : IsWithin layout
  pub locked : length layout.locked ≡ length layout.pages
  pub twins : length layout.twins ≡ length layout.trans
  pub twin_names : All (IsTwinDeclared layout) layout.twins
  pub guests : length layout.guests ≡ layout.procs

-- whether a page is locked; no page without a declaration is
abbrev pub is_locked : Layout → Page → Bool
is_locked layout page = get_or layout.locked page.0 false

-- whether a process is a guest; no process without a declaration is
abbrev pub is_guest : Layout → Proc → Bool
is_guest layout process = get_or layout.guests process.0 false

-- whether a process is a guest, whichever
abbrev pub has_guests : Layout → Bool
has_guests layout = list_any (λ (guest : Bool). guest) layout.guests

-- the private twin of a translation, if it has one: behind a fork it stands for the translation, once that was stored through
abbrev pub twin_of : Layout → VSlot → Option VSlot
twin_of layout slot = get_or layout.twins slot.0 None

-- whether a translation has a twin
abbrev pub has_twin : Layout → VSlot → Bool
has_twin layout slot = is_some (twin_of layout slot)

-- whether it is this translation that is here
abbrev pub is_slot : VSlot → Option VSlot → Bool
is_slot slot None = false
is_slot slot (Some other) = other.0 == slot.0

-- whether a translation is the twin of another
abbrev pub is_twin : Layout → VSlot → Bool
is_twin layout slot = list_any (is_slot slot) layout.twins
