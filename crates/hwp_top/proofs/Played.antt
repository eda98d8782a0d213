-- The tasks of a script on a board at opening, and where their turns lead.
use Rattle.std.proofs.Common.{◌≡◌, ℕ, ◌++◌, List, length, take, drop, refl, sym, ap, ◌∙◌, subst, arith}
use Rattle.std.proofs.lemmas.List.{take_all, take-append-le}
use Rattle.hwp_top_report.specs.hwp_geom.declared.Cpu.{Cpu}
use Rattle.hwp_top_report.specs.hwp_geom.declared.Layout.{Layout}
use Rattle.hwp_top_report.specs.hwp_core_rule.declared.State.{State}
use Rattle.hwp_top_report.specs.hwp_core_rule.Opening.{opening}
use Rattle.hwp_top_report.specs.hwp_core_rule.Rule.{Holds}
use Rattle.hwp_top_report.specs.hwp_core_rule.Boards.{AreSeated, Played}
use Rattle.hwp_top_words.specs.hwp_script_read.declared.Go.{Go}
use Rattle.hwp_top_words.specs.hwp_script_read.declared.Script.{Script}
use Rattle.hwp_top_words.specs.hwp_script_read.hwp_script_words.Valid.{IsValid}
use Rattle.hwp_top_report.specs.hwp_plain.Order.{AreOver, Grows, InOrder, Running, logged, running}
use Rattle.hwp_top_report.specs.hwp_plain.Ready.{IsCrew}
use Rattle.hwp_top_report.specs.hwp_law_served.Turns.{Leads}
use Rattle.hwp_top_report.proofs.of_hwp_law_served.turns.TurnKeeps.{same-ordered}
use Rattle.hwp_top_report.proofs.of_hwp_law_served.turns.TurnLeads.{leads-hold, leads-ordered}
use Rattle.hwp_top_report.specs.hwp_cpu_row.declared.Row.{Row}
use Rattle.hwp_top_report.proofs.Settled.{settled-when-over}
use Rattle.hwp_cpu.specs.declared.Processor.{Processor}
use Rattle.hwp_cpu.proofs.ProcessorTells.{tells}
use Rattle.hwp_cpu.specs.Processors.{AreFinished}
use Rattle.hwp_top_report.specs.Finishes.{own_seat}
use Rattle.hwp_top.specs.Runs.{AreAtBeginning, IsOpened, IsPlayed, processors}
use Rattle.hwp_top.proofs.Crews.{all-served, begin-crew, finished-length}

module _ (script : Script) (layout : Layout) (seat : Cpu → ℕ) (state : State) (log : List Played) (opened : IsOpened script layout seat state log) (tasks ps : List Processor) (same : ps ≡ tasks) where
  -- what holds of the board of a script at opening, as the tasks see it
  at-opening : (P : Running Processor → Type 0) → P (running layout seat ps state) → P (running script.layout own_seat tasks (opening script.layout))
  at-opening P p = subst (λ (l : Layout). P (running l own_seat tasks (opening script.layout))) opened.layout_is
      (subst (λ (o : Cpu → ℕ). P (running layout o tasks (opening script.layout))) opened.seat_is
      (subst (λ (s : State). P (running layout seat tasks s)) opened.state_is (subst (λ (ts : List Processor). P (running layout seat ts state)) same p)))

  back : (P : Running Processor → Type 0) → P (running script.layout own_seat tasks (opening script.layout)) → P (running layout seat ps state)
  back P p = subst (λ (ts : List Processor). P (running layout seat ts state)) (sym same)
      (subst (λ (s : State). P (running layout seat tasks s)) (sym opened.state_is)
      (subst (λ (o : Cpu → ℕ). P (running layout o tasks (opening script.layout))) (sym opened.seat_is)
      (subst (λ (l : Layout). P (running l own_seat tasks (opening script.layout))) (sym opened.layout_is) p)))

  -- the tasks are a crew there
  pub crew-opened : IsValid script → AreAtBeginning script tasks → IsCrew processors (running layout seat ps state)
  crew-opened valid begin = back (IsCrew processors) (begin-crew script tasks valid begin)

  -- when all turns are made
  module _ (go : List Go) (words : go ≡ script.go) (last : Running Processor) (log' : List Played) (grows : Grows log log' (λ turns. InOrder processors go (running layout seat ps state) turns last)) where
    order : InOrder processors script.go (running script.layout own_seat tasks (opening script.layout)) grows.turns last
    order = at-opening (λ a. InOrder processors script.go a grows.turns last) (subst (λ (g : List Go). InOrder processors g (running layout seat ps state) grows.turns last) words grows.are)

    -- the machine is the same, and so is each seat
    pub layout-is : last.layout ≡ script.layout
    layout-is = (same-ordered processors script.go (running script.layout own_seat tasks (opening script.layout)) last grows.turns order).0

    seat-is : last.seat ≡ own_seat
    seat-is = (same-ordered processors script.go (running script.layout own_seat tasks (opening script.layout)) last grows.turns order).1

    module _ (rows : List (List Row)) (valid : IsValid script) (begin : AreAtBeginning script tasks) (holds : Holds layout state) (seated : AreSeated layout state seat)
        (crew : IsCrew processors last) (seated-last : AreSeated last.layout last.state last.seat) (finished : AreFinished last.tasks rows) (over : AreOver processors last.tasks) where
      rule : Holds script.layout (opening script.layout)
      rule = at-opening (λ a. Holds a.layout a.state) holds

      led : Leads script.layout (opening script.layout) grows.turns last.state
      led = leads-ordered processors script.go (running script.layout own_seat tasks (opening script.layout)) last grows.turns order

      crew-there : IsCrew processors (running script.layout own_seat last.tasks last.state)
      crew-there = subst (λ (l : Layout). IsCrew processors (running l own_seat last.tasks last.state)) layout-is
          (subst (λ (o : Cpu → ℕ). IsCrew processors (running last.layout o last.tasks last.state)) seat-is crew)

      seated-there : AreSeated script.layout last.state own_seat
      seated-there = subst (λ (l : Layout). AreSeated l last.state own_seat) layout-is (subst (AreSeated last.layout last.state) seat-is seated-last)

      -- the run is played
      pub all-played : IsPlayed script log' last.state rows
      all-played = record {
        tasks = tasks;
        begin = begin;
        seated = at-opening (λ a. AreSeated a.layout a.state a.seat) seated;
        turns = grows.turns;
        log_is = grows.now_is ∙ ap (logged grows.turns) opened.log_is;
        last = last;
        order = order;
        state_is = refl;
        ended = record {
          rule = rule;
          moves = led;
          seated = seated-there;
          settled = settled-when-over processors (running script.layout own_seat last.tasks last.state) tells crew-there over;
          served = all-served script tasks valid begin grows.turns last order (leads-hold script.layout (opening script.layout) last.state grows.turns rule led) seated-there crew-there rows finished;
          count = finished-length last.tasks rows finished ∙ crew.count ∙ ap (λ (l : Layout). l.cpus) layout-is;
        };
        finished = finished;
      }

-- what a vector holds after its slice was written
pub written-back : {A : Type 0} (n : ℕ) (new old : List A) → length new ≡ n → take n (new ++ drop (length new) old) ≡ new
written-back n new old whole = take-append-le n new (drop (length new) old) (omega arith) ∙ take_all n new (omega arith)
