-- What is kept of the lines above while a script is read.
use Rattle.std.specs.Prelude.{◌≡◌, ℕ, ◌<◌, ◌↔◌, true, false, length, map, slice_get, Some, IfSome, Contains, List, []}
use Rattle.std.specs.List.{range_with_len}
use Rattle.hwp_script_lines.specs.hwp_geom.declared.Layout.{Layout}
use Rattle.hwp_script_lines.specs.declared.ScriptLine.{ScriptLine}
use Rattle.hwp_script_read.specs.declared.context.Summary.{Summary}
use Rattle.hwp_script_read.specs.Context.{version_in, cpus_in, frames_in, kernel_in, recovery_in, early_in, files_in, procs_in, threads_in, pages_in, locked_in, trans_in, twins_in, guests_in, lists_in, commands_in, go_in, place_in, highest}
use Rattle.hwp_script_read.specs.Collects.{commands_of}

-- the summary is that of these lines
pub record Sums (above : List ScriptLine) (s : Summary) : Type 0 where
  pub group : s.group ≡ highest above
  pub version : s.version ≡ version_in above
  pub cpus : s.cpus ≡ cpus_in above
  pub frames : s.frames ≡ frames_in above
  pub marks : length s.kernel.items ≡ frames_in above
  pub kernel : (frame : ℕ) → (slice_get s.kernel.items frame ≡ Some true) ↔ Contains (kernel_in above) frame
  pub recovery : s.recovery ≡ recovery_in above
  pub early : s.early ≡ early_in above
  pub files : s.files ≡ files_in above
  pub procs : s.procs ≡ procs_in above
  pub threads : s.threads ≡ threads_in above
  pub pages : s.pages ≡ pages_in above
  pub trans : s.trans ≡ trans_in above
  pub locked : s.locked ≡ locked_in above
  pub twins : s.twins.items ≡ twins_in above
  pub guests : s.guests.items ≡ guests_in above
  pub begun : s.begun ≡ lists_in above
  pub place : s.place ≡ place_in above
  pub within : IfSome s.place (λ (p : ℕ). p < s.cpus)
  pub commands : s.commands ≡ commands_in above
  pub lists : s.lists.items ≡ map (commands_of above) (range_with_len 0 (cpus_in above))
  pub go : s.go ≡ go_in above

-- the names that the summary keeps, as a layout
abbrev pub names_of : Summary → Layout
names_of s = record {
  version = s.version;
  cpus = s.cpus;
  frames = s.frames;
  kernel = [];
  recovery = true;
  early = false;
  files = s.files;
  procs = s.procs;
  threads = s.threads;
  pages = s.pages;
  trans = s.trans;
  locked = s.locked;
  twins = s.twins.items;
  guests = s.guests.items;
}
