-- How many entries of the histories are of a command: as many as its processor lists as made by it.
use Rattle.std.proofs.Common.{◌≡◌, ℕ, suc, ◌+◌, ◌<◌, ◌&&◌, Bool, true, false, cond, List, [], ◌∷◌, Some, filter, slice_get, refl, sym, ap, ◌∙◌, subst, arith, Option}
use Rattle.std.specs.List.{count_by, sum_by}
use Rattle.std.proofs.lemmas.Bool.{and_left, false_from_ne_true}
use Rattle.std.proofs.lemmas.List.Sums.{sum_by-cons}
use Rattle.hwp_law_served.specs.hwp_geom.declared.VSlot.{VSlot}
use Rattle.hwp_law_served.specs.hwp_geom.declared.Cpu.{Cpu}
use Rattle.hwp_law_served.specs.hwp_geom.declared.Page.{Page}
use Rattle.hwp_law_served.specs.hwp_geom.declared.Who.{Who}
use Rattle.hwp_law_served.specs.hwp_page.declared.Entry.{Entry}
use Rattle.hwp_law_served.specs.hwp_page.declared.What.{What}
use Rattle.hwp_law_served.specs.hwp_core_rule.declared.Made.{Made}
use Rattle.hwp_law_served.specs.hwp_core_rule.declared.State.{State}
use Rattle.hwp_law_served.specs.hwp_core_rule.declared.View.{View}
use Rattle.hwp_law_served.specs.hwp_core_rule.parts.Entries.{weigh, weigh_from}
use Rattle.hwp_law_served.proofs.of_hwp_core_rule.Lists.{sum-zero}
use Rattle.hwp_law_served.specs.hwp_core_rule.Boards.{view_of}
use Rattle.hwp_law_served.specs.hwp_core_rule.Known.{deeds, is_by}
use Rattle.hwp_law_served.specs.hwp_script_words.declared.Script.{Script}
use Rattle.hwp_law_served.specs.hwp_report_text.declared.Report.{Report}
use Rattle.hwp_law_served.specs.hwp_law.Lines.{is_same_command}
use Rattle.hwp_law_served.specs.hwp_law.Pairings.{entries_of}
use Rattle.hwp_law_served.proofs.Histories.{balanced}
use Rattle.hwp_law_served.specs.Accounts.{is_same}
use Rattle.hwp_law_served.proofs.marks.Marked.{turned}
use Rattle.hwp_law_served.proofs.RunEnds.{IsEnd}
use Rattle.hwp_law_served.proofs.PoisonMarks.{same-who}
use Rattle.hwp_law_served.proofs.HomePages.{home-pages}
use Rattle.hwp_law_served.proofs.Seats.{seat-place}
use Rattle.hwp_law_served.proofs.Sums.{sum-one}

-- the entry is of the command and passes the test
abbrev is_such : Who → (What → Bool) → Entry → Bool
is_such who test e = is_same_command who e.who && test e.what

-- what counts such entries
abbrev such : Who → (What → Bool) → Page → ℕ → Entry → ℕ
such who test page place e = cond (is_such who test e) 1 0

weigh-counts : (who : Who) (test : What → Bool) (page : Page) (place : ℕ) (es : List Entry) → weigh_from (such who test) page place es ≡ count_by (is_such who test) es
weigh-counts who test page place [] = refl
weigh-counts who test page place (e ∷ es) =
    let rest : weigh_from (such who test) page (suc place) es ≡ count_by (is_such who test) es = weigh-counts who test page (suc place) es in
    let both : count_by (is_such who test) (e ∷ es) ≡ cond (is_such who test e) 1 0 + count_by (is_such who test) es = sum_by-cons (λ (x : Entry). cond (is_such who test x) 1 0) e es in
    omega arith

-- the entries of a list that are such are those of the command that pass the test
made-counts : (who : Who) (test : What → Bool) (list : List Made) → sum_by (λ (m : Made). cond (is_such who test m.entry) 1 0) list ≡ count_by (λ (m : Made). test m.entry.what) (filter (is_by who) list)
made-counts who test [] = refl
made-counts who test (m ∷ ms) =
    sum_by-cons (λ (x : Made). cond (is_such who test x.entry) 1 0) m ms
    ∙ ap (λ (k : ℕ). cond (is_such who test m.entry) 1 0 + k) (made-counts who test ms)
    ∙ ap (λ (b : Bool). cond (b && test m.entry.what) 1 0 + count_by (λ (x : Made). test x.entry.what) left) (turned who m.entry.who)
    ∙ which (is_same who m.entry.who)
  where
    left : List Made
    left = filter (is_by who) ms

    which : (b : Bool) → cond (b && test m.entry.what) 1 0 + count_by (λ (x : Made). test x.entry.what) left ≡ count_by (λ (x : Made). test x.entry.what) (cond b (m ∷ left) left)
    which true = sym (sum_by-cons (λ (x : Made). cond (test x.entry.what) 1 0) m left)
    which false = omega arith

module _ (script : Script) (copies : Who → Option VSlot) (seat : Cpu → ℕ) (last : State) (report : Report) (end : IsEnd script copies seat last report) where
  entries-listed : (who : Who) (test : What → Bool) → entries_of report who test ≡ sum_by (λ (v : View). sum_by (λ (m : Made). cond (is_such who test m.entry) 1 0) v.made) last.views
  entries-listed who test =
      sym (home-pages script.layout last report end.board (weigh (such who test)) (count_by (is_such who test)) (λ q es there. weigh-counts who test (record { 0 = q }) 0 es))
      ∙ balanced script.layout last end.board.holds end.board.empty (such who test)

  -- another view lists no entry of the command
  none-listed : (who : Who) (test : What → Bool) (i : ℕ) (v : View) → slice_get last.views i ≡ Some v → ((who.cpu.0 < script.layout.cpus) → i ≡ seat who.cpu → ⊥) → sum_by (λ (m : Made). cond (is_such who test m.entry) 1 0) v.made ≡ 0
  none-listed who test i v view never =
      sum-zero (λ (m : Made). cond (is_such who test m.entry) 1 0) v.made (λ j m there.
      let other : is_same_command who m.entry.who ≡ false = false_from_ne_true (is_same_command who m.entry.who) (λ yes_.
      let same : m.entry.who ≡ who = same-who who m.entry.who (sym (turned who m.entry.who) ∙ yes_) in
      let own = seat-place script.layout seat last end.board.holds end.seated i v m.entry.who view ((end.board.holds.rule.processors.commands.own i v view).made j m there) in
      never (subst (λ (w : Who). w.cpu.0 < script.layout.cpus) same own.0) (own.1 ∙ ap (λ (w : Who). seat w.cpu) same)) in
      ap (λ (b : Bool). cond b 1 0) (and_left (is_same_command who m.entry.who) (test m.entry.what) other))

  -- no processor of the layout: no entry
  pub entries-outside : (who : Who) (test : What → Bool) → ¬ (who.cpu.0 < script.layout.cpus) → entries_of report who test ≡ 0
  entries-outside who test outside =
      entries-listed who test
      ∙ sum-zero (λ (v : View). sum_by (λ (m : Made). cond (is_such who test m.entry) 1 0) v.made) last.views (λ i v view. none-listed who test i v view (λ inside same. outside inside))

  -- the entries of a command are its deeds
  pub entries-inside : (who : Who) (test : What → Bool) → who.cpu.0 < script.layout.cpus → entries_of report who test ≡ count_by (λ (m : Made). test m.entry.what) (deeds who (view_of last (seat who.cpu)))
  entries-inside who test inside =
      entries-listed who test
      ∙ sum-one (λ (v : View). sum_by (λ (m : Made). cond (is_such who test m.entry) 1 0) v.made) last.views (seat who.cpu) (view_of last (seat who.cpu)) (end.seated.there who.cpu inside)
      (λ i v differs view. none-listed who test i v view (λ within same. differs same))
      ∙ made-counts who test (view_of last (seat who.cpu)).made
