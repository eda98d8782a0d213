-- What touches a page, and the entry that it was answered by SIGBUS.
use Rattle.std.specs.Prelude.{◌≡◌, ℕ, ◌-◌, ◌<◌, [], ◌∷◌, ◌++◌, Some, slice_get}
use Rattle.std.specs.declared.snapshot.Snapshot.{Snapshot}
use Rattle.hwp_page.specs.hwp_geom.declared.Layout.{Layout}
use Rattle.hwp_page.specs.hwp_geom.declared.Thread.{Thread}
use Rattle.hwp_page.specs.hwp_geom.declared.ThreadDecl.{ThreadDecl}
use Rattle.hwp_page.specs.hwp_geom.declared.TransDecl.{TransDecl}
use Rattle.hwp_page.specs.hwp_geom.declared.VSlot.{VSlot}
use Rattle.hwp_page.specs.hwp_geom.declared.Who.{Who}
use Rattle.hwp_page.specs.declared.Entry.{Entry}
use Rattle.hwp_page.specs.declared.Met.TheVariants.{Sigbus}
use Rattle.hwp_page.specs.declared.What.{What}
use Rattle.hwp_page.specs.declared.What.TheVariants as entries
use Rattle.hwp_page.specs.History.{BodyValue}
use Rattle.hwp_page.specs.Step.{after}
use Rattle.hwp_fault.specs.declared.touch.AccessKind.{AccessKind}
use Rattle.hwp_fault.specs.declared.touch.AccessKind.TheVariants as kinds
use Rattle.hwp_fault.specs.declared.touch.Touch.{Touch}

abbrev pub refusal_by : AccessKind → VSlot → ℕ → Thread → What
refusal_by kinds.Load slot line thread = entries.Load slot line (Sigbus thread)
refusal_by (kinds.Store word) slot line thread = entries.Store slot line (Sigbus thread)

abbrev pub refusal : VSlot → Touch → What
refusal slot touch = refusal_by touch.kind slot touch.line touch.thread

abbrev pub refusal_entry : Who → VSlot → Touch → Entry
refusal_entry who slot touch = record { who = who; what = refusal slot touch }

-- the body with the entry
abbrev pub refused : Who → VSlot → Touch → BodyValue → BodyValue
refused who slot touch body = record body { state = after body.state (refusal slot touch); log = body.log ++ refusal_entry who slot touch ∷ []; spare = body.spare - 1 }

-- a body as a step names it
abbrev pub as_snapshot : BodyValue → Snapshot BodyValue
as_snapshot body = record { marker = record {}; value = body }

-- the names are of the layout: the translation and the thread are of the process
pub record IsTouch (layout : Layout) (slot : VSlot) (touch : Touch) : Type 0 where
  pub decl : TransDecl
  pub declared : slice_get layout.trans slot.0 ≡ Some decl
  pub process_is : decl.process ≡ touch.process
  pub thread : ThreadDecl
  pub thread_declared : slice_get layout.threads touch.thread.0 ≡ Some thread
  pub thread_of : thread.process ≡ touch.process
  pub process : touch.process.0 < layout.procs
