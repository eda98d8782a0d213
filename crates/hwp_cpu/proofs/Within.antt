-- What each task of a command keeps, a command keeps whatever its course comes to: so the numbers of a collector that it begins stay within
-- their limits, and so it stays denied, if it is.
use Rattle.std.proofs.Common.{◌≡◌, false, ℕ, Option, true, subst, None, Bool, inr, Some, refl, sym, ◌∙◌, inl}
use Rattle.hwp_cpu_row.specs.declared.Watching.{Watching}
use Rattle.hwp_cpu.proofs.commands.Beside.{give-up-within, behind-within, within-stays}
use Rattle.hwp_cpu.proofs.commands.DeniedAnswers.{denial-bare, denial-behind, denial-next, denial-up}
use Rattle.hwp_cpu_row.specs.hwp_geom.declared.Layout.{Layout}
use Rattle.hwp_cpu_command.specs.hwp_soft.declared.Soft.{Soft}
use Rattle.hwp_cpu.specs.Courses.{AfterRestBy, AfterOwn, AfterOwnIf, rests, AfterOwnBy, bare_of, going_on, IsGoingOn, AfterSoft, with_result, has_more}
use Rattle.hwp_cpu.proofs.ToldSince.{AfterCollectingBy, collecting-by}
use Rattle.hwp_cpu_row.specs.hwp_geom.declared.Frame.{Frame}
use Rattle.hwp_cpu.specs.declared.course.Course.{Course}
use Rattle.hwp_cpu_row.specs.Dues.{next_due}
use Rattle.hwp_cpu_command.specs.hwp_soft.declared.SoftAnswer.{SoftAnswer}
use Rattle.hwp_cpu_row.specs.hwp_page.History.{BodyValue}
use Rattle.hwp_cpu_row.specs.Locals.{collects}
use Rattle.hwp_cpu_row.specs.hwp_core_rule.declared.Turn.{Turn}
use Rattle.hwp_cpu_command.specs.FileHandles.{HasChangeWithin}
use Rattle.hwp_cpu_command.specs.Jobs as jobs
use Rattle.hwp_cpu_command.specs.Jobs.{denial_of}
use Rattle.hwp_cpu_command.specs.declared.job.Job.{Job}
use Rattle.hwp_cpu.specs.Courses as courses
use Rattle.hwp_cpu_command.specs.hwp_soft.Softs as softs

-- what a turn of the task, going on behind its pause and giving up keep
module _ (P : Job → Type 0) (turns : (layout : Layout) (j k : Job) (found : ℕ) (got : Option BodyValue) (turn : Turn) → jobs.Next layout j found got k turn → P j → P k) (resumes : (j : Job) → P j → P (jobs.resume j)) (gives : (j : Job) → P j → P (jobs.give_up j)) where
  module _ (c : Course) (has : P c.own) where
    going-keeps : (o : Option Frame) → P (going_on c o).own
    going-keeps (Some frame) = has
    going-keeps None = resumes c.own has

    goes-keeps : (d : Course) (turn : Turn) → IsGoingOn c d turn → P d.own
    goes-keeps d turn follows = subst (λ (x : Course). P x.own) (sym follows.0) (going-keeps (next_due c.due))

  pub course-keeps : (layout : Layout) (c : Course) (found : ℕ) (got : Option BodyValue) (d : Course) (turn : Turn) → courses.Next layout c found got d turn → P c.own → P d.own
  course-keeps layout c found got d turn next has = which c.beside next
    where
      own-side : (k : Job) (t : Turn) → P k → AfterOwn layout (record c { own = k }) t d turn → P d.own
      own-side k t now after = by (collects c.watching) after
        where
          collected : (o : Option Watching) (e : Course) → AfterCollectingBy layout (record c { own = k }) o e → P e.own
          collected None e none = absurd none
          collected (Some w) e (counters, value, took, is) = subst (λ (x : Course). P x.own) (sym is) now

          at-rest : (b : Bool) (u : Turn) → AfterRestBy layout (record c { own = k }) b d u → P d.own
          at-rest false u goes = goes-keeps (record c { own = k }) now d u goes
          at-rest true u (inl refused) = subst (λ (x : Course). P x.own) (sym refused.0) (gives k now)
          at-rest true u (inr (e, took, goes)) = goes-keeps e (collected c.watching e (collecting-by layout (record c { own = k }) e took)) d u goes

          by-rest : (b : Bool) → AfterOwnBy layout (record c { own = k }) b t d turn → P d.own
          by-rest false same = subst (λ (x : Course). P x.own) (sym same.0) now
          by-rest true (u, goes, same) = at-rest (has_more layout (record c { own = k })) u goes

          by : (b : Bool) → AfterOwnIf layout (record c { own = k }) b t d turn → P d.own
          by false same = subst (λ (x : Course). P x.own) (sym same.0) now
          by true goes = by-rest (rests k) goes

      soft-side : (k : Soft) (t : Turn) (o : Option SoftAnswer) → AfterSoft (record c { beside = Some k }) k o t d turn → P d.own
      soft-side k t None same = subst (λ (x : Course). P x.own) (sym same.0) has
      soft-side k t (Some x) goes = goes-keeps (with_result (record c { beside = Some k }) k.frame x) has d turn goes

      which : (o : Option Soft) → courses.NextOf layout c o found got d turn → P d.own
      which None so = own-side so.0 so.1 (turns layout c.own so.0 found got so.1 so.2 has) so.3
      which (Some s) so = soft-side so.0 so.1 (softs.answer so.0) so.3

pub course-within : (layout : Layout) (c : Course) (found : ℕ) (got : Option BodyValue) (d : Course) (turn : Turn) → courses.Next layout c found got d turn → HasChangeWithin c.own → HasChangeWithin d.own
course-within = course-keeps HasChangeWithin within-stays behind-within give-up-within

-- what it answers of an access that its guest doesn't admit stays so
pub course-denial : (layout : Layout) (c : Course) (found : ℕ) (got : Option BodyValue) (d : Course) (turn : Turn) → courses.Next layout c found got d turn → denial_of d.own ≡ denial_of c.own
course-denial layout c found got d turn next =
    course-keeps (λ (j : Job). denial_of j ≡ denial_of c.own) (λ l j k f g t n is. denial-next l j k f g t n ∙ is) (λ j is. denial-behind j ∙ is) (λ j is. denial-up j ∙ is) layout c found got d turn next refl

pub bare-denial : (c : Course) → denial_of (courses.bare c).own ≡ denial_of c.own
bare-denial c = which c.beside
  where
    which : (o : Option Soft) → denial_of (bare_of c o).own ≡ denial_of c.own
    which None = denial-bare c.own
    which (Some s) = refl
