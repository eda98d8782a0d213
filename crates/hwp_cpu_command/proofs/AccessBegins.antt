-- A command that is an access: what it names is declared, and the task of what it asks for begins it.
use Rattle.std.proofs.Common.{◌≡◌, ℕ, ◌<◌, Bool, None, Option, Some, length, slice_get, refl, sym, ap, subst}
use Rattle.std.specs.Prelude.{IsSomeAnd}
use Rattle.std.proofs.lemmas.Option.{none-some, same_Some, slice_get_within}
use Rattle.hwp_cpu_control.specs.hwp_geom.declared.Layout.{Layout}
use Rattle.hwp_cpu_control.specs.hwp_geom.declared.ThreadDecl.{ThreadDecl}
use Rattle.hwp_cpu_control.specs.hwp_geom.declared.TransDecl.{TransDecl}
use Rattle.hwp_cpu_control.specs.hwp_geom.declared.Who.{Who}
use Rattle.hwp_cpu_control.specs.hwp_geom.Limits.{line_limit}
use Rattle.hwp_cpu_row.specs.hwp_banks.Banks.{Banks}
use Rattle.hwp_cpu_row.specs.hwp_script_words.declared.Command.{Command}
use Rattle.hwp_cpu_row.specs.hwp_script_words.declared.Command.TheVariants as commands
use Rattle.hwp_cpu_row.specs.hwp_script_words.Valid.{IsAccess, IsCommandOf}
use Rattle.hwp_cpu_row.specs.hwp_law.Commands.{access, access_of}
use Rattle.hwp_cpu_command.specs.declared.begin.LineAccess.{LineAccess}
use Rattle.hwp_cpu_command.specs.declared.job.Job.{Job}
use Rattle.hwp_cpu_command.specs.Begins.{Begins, BeginsLine, access_in}

abbrev IsDeclared : Layout → ℕ → LineAccess → Type 0
IsDeclared layout cpu at = IsAccess layout cpu at.thread at.slot × (at.line < line_limit)

pub access-declared : (layout : Layout) (cpu : ℕ) (command : Command) (at : LineAccess) → access_in command ≡ Some at → IsCommandOf layout cpu command → IsAccess layout cpu at.thread at.slot × (at.line < line_limit)
access-declared layout cpu (commands.Load thread slot line) at is of = subst (IsDeclared layout cpu) (same_Some _ at is) of
access-declared layout cpu (commands.Fetch thread slot line) at is of = subst (IsDeclared layout cpu) (same_Some _ at is) of
access-declared layout cpu (commands.KLoad thread slot line) at is of = subst (IsDeclared layout cpu) (same_Some _ at is) of
access-declared layout cpu (commands.Store thread slot line word) at is of = subst (IsDeclared layout cpu) (same_Some _ at is) of
access-declared layout cpu command at is of = absurd (none-some at is)

line-begins : (layout : Layout) (who : Who) (command : Command) (at : LineAccess) (banks : Banks) (collects : Bool) (j : Job) → access_in command ≡ Some at → BeginsLine layout who at banks collects j → Begins layout who command banks collects j
line-begins layout who (commands.Load thread slot line) at banks collects j is begins = subst (λ (a : LineAccess). BeginsLine layout who a banks collects j) (sym (same_Some _ at is)) begins
line-begins layout who (commands.Fetch thread slot line) at banks collects j is begins = subst (λ (a : LineAccess). BeginsLine layout who a banks collects j) (sym (same_Some _ at is)) begins
line-begins layout who (commands.KLoad thread slot line) at banks collects j is begins = subst (λ (a : LineAccess). BeginsLine layout who a banks collects j) (sym (same_Some _ at is)) begins
line-begins layout who (commands.Store thread slot line word) at banks collects j is begins = subst (λ (a : LineAccess). BeginsLine layout who a banks collects j) (sym (same_Some _ at is)) begins
line-begins layout who command at banks collects j is begins = absurd (none-some at is)

pub access-begins : (layout : Layout) (who : Who) (command : Command) (at : LineAccess) (banks : Banks) {given collects : Bool} (j : Job) → access_in command ≡ Some at → given ≡ collects → BeginsLine layout who at banks given j → Begins layout who command banks collects j
access-begins layout who command at banks {given} {collects} j is same begins = line-begins layout who command at banks collects j is (subst (λ (b : Bool). BeginsLine layout who at banks b j) same begins)

-- it is the access that the command is
pub access-is : (command : Command) (at : LineAccess) → access_in command ≡ Some at → access_of command ≡ Some (access at.thread at.slot at.line)
access-is (commands.Load thread slot line) at is = ap (λ (a : LineAccess). Some (access a.thread a.slot a.line)) (same_Some _ at is)
access-is (commands.Fetch thread slot line) at is = ap (λ (a : LineAccess). Some (access a.thread a.slot a.line)) (same_Some _ at is)
access-is (commands.KLoad thread slot line) at is = ap (λ (a : LineAccess). Some (access a.thread a.slot a.line)) (same_Some _ at is)
access-is (commands.Store thread slot line word) at is = ap (λ (a : LineAccess). Some (access a.thread a.slot a.line)) (same_Some _ at is)
access-is command at is = absurd (none-some at is)

-- its thread is declared
pub access-thread : (layout : Layout) (cpu : ℕ) (command : Command) (at : LineAccess) → access_in command ≡ Some at → IsCommandOf layout cpu command → at.thread.0 < length layout.threads
access-thread layout cpu command at is of = which (slice_get layout.threads at.thread.0) refl (access-declared layout cpu command at is of).0
  where
    which : (o : Option ThreadDecl) → slice_get layout.threads at.thread.0 ≡ o → IsSomeAnd o (λ (t : ThreadDecl). (t.cpu.0 ≡ cpu) × IsSomeAnd (slice_get layout.trans at.slot.0) (λ (v : TransDecl). v.process ≡ t.process)) → at.thread.0 < length layout.threads
    which None there has = absurd has
    which (Some t) there has = slice_get_within layout.threads at.thread.0 t there
