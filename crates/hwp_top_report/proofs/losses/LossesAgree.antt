-- What the report says is lost of a file are the losses in the histories of its pages, and the numbers of handles agree with them.
use Rattle.std.proofs.Common.{◌≡◌, ◌≢◌, ◌⊎◌, inl, inr, ℕ, zero, suc, ◌+◌, ◌<◌, ◌≤◌, ◌==◌, ◌&&◌, nat_lt, Bool, true, false, cond, List, [], ◌∷◌, Option, Some, length, map, option_and_then, slice_get, take, unwrap_or, refl, sym, ap, ◌∙◌, subst, arith}
use Rattle.std.specs.Int.{from_bool}
use Rattle.std.specs.List.{sum_by, zip}
use Rattle.std.proofs.lemmas.Bool.{eqb-true, false_from_ne_true}
use Rattle.std.proofs.lemmas.List.Sums.{sum_by-cons, sum_by-le-sum_by}
use Rattle.std.proofs.lemmas.Option.{slice_get_within}
use Rattle.hwp_law_served.specs.hwp_geom.declared.VSlot.{VSlot}
use Rattle.hwp_law_served.specs.hwp_geom.declared.Cpu.{Cpu}
use Rattle.hwp_law_served.specs.hwp_geom.declared.FileNo.{FileNo}
use Rattle.hwp_law_served.specs.hwp_geom.declared.Layout.{Layout}
use Rattle.hwp_law_served.specs.hwp_geom.declared.Page.{Page}
use Rattle.hwp_law_served.specs.hwp_geom.declared.PageKind.{PageKind}
use Rattle.hwp_law_served.specs.hwp_geom.declared.Who.{Who}
use Rattle.hwp_law_served.specs.hwp_page.declared.Entry.{Entry}
use Rattle.hwp_law_served.specs.hwp_page.Orders.{IsEarlier}
use Rattle.hwp_law_served.specs.hwp_page.Losses.{file_behind, is_loss, is_same_file}
use Rattle.hwp_law_served.specs.hwp_core_rule.declared.Debts.{Debts}
use Rattle.hwp_law_served.specs.hwp_core_rule.declared.InHand.{InHand}
use Rattle.hwp_law_served.specs.hwp_core_rule.declared.Log.{Log}
use Rattle.hwp_law_served.specs.hwp_core_rule.declared.Made.{Made}
use Rattle.hwp_law_served.specs.hwp_core_rule.declared.SharedWord.TheVariants as places
use Rattle.hwp_law_served.specs.hwp_core_rule.declared.Sight.{Sight}
use Rattle.hwp_law_served.specs.hwp_core_rule.declared.State.{State}
use Rattle.hwp_law_served.specs.hwp_core_rule.declared.View.{View}
use Rattle.hwp_law_served.specs.hwp_core_rule.Lists.{of_home, sum_all, sum_bodies}
use Rattle.hwp_law_served.specs.hwp_core_rule.Logs.{file_of, losses_of}
use Rattle.hwp_law_served.specs.hwp_core_rule.Rule.{losing_of}
use Rattle.hwp_law_served.specs.hwp_core_rule.Words.{Words, sum_below, words_of}
use Rattle.hwp_law_served.specs.hwp_core_rule.parts.Entries.{weigh, weigh_from}
use Rattle.hwp_law_served.specs.hwp_core_rule.parts.Losses.{owed_of}
use Rattle.hwp_law_served.proofs.of_hwp_core_rule.Lists.{at_map, sum-map, sum-zero}
use Rattle.hwp_law_served.proofs.of_hwp_core_rule.MoveKeeps.{shaped}
use Rattle.hwp_law_served.specs.hwp_core_rule.Boards.{Played, view_of}
use Rattle.hwp_law_served.specs.hwp_core_rule.Known.{Saw, earlier_losses}
use Rattle.hwp_law_served.specs.hwp_script_words.declared.Command.{Command}
use Rattle.hwp_law_served.specs.hwp_script_words.declared.Script.{Script}
use Rattle.hwp_law_served.specs.hwp_report_text.declared.Answer.{Answer}
use Rattle.hwp_law_served.specs.hwp_report_text.declared.CpuLine.{CpuLine}
use Rattle.hwp_law_served.specs.hwp_report_text.declared.Report.{Report}
use Rattle.hwp_law_served.specs.hwp_law.Lines.{answered}
use Rattle.hwp_law_served.specs.hwp_law.Losses.{IsNumber, LossesAgree, found_in, is_lost, is_lost_before, losses_such, numbers_after, tells_number}
use Rattle.hwp_law_served.proofs.Histories.{balanced, no-bodies}
use Rattle.hwp_law_served.proofs.Homes.{there-is}
use Rattle.hwp_law_served.specs.Runs.{IsRunOf}
use Rattle.hwp_law_served.proofs.HomePages.{home-sum}
use Rattle.hwp_law_served.proofs.LastBoard.{ended, nothing}
use Rattle.hwp_law_served.proofs.RunEnds.{IsEnd}
use Rattle.hwp_law_served.proofs.RunKeeps.{run-keeps}
use Rattle.hwp_law_served.proofs.Seats.{seat-place}
use Rattle.hwp_law_served.proofs.Sums.{list-below, sum-one}
use Rattle.hwp_top_report.proofs.losses.LossesSeen.{AreRisingSights, sights-kept}
use Rattle.hwp_top_report.proofs.losses.NumbersTold.{IsToldBefore, number-known, told-before, zip-at}

zip-length : {A B : Type 0} (xs : List A) (ys : List B) → length xs ≡ length ys → length {A = A × B} (zip xs ys) ≡ length xs
zip-length [] ys same = refl
zip-length (x ∷ xs) [] same = absurd (let none : suc (length xs) ≡ zero = same in omega arith)
zip-length (x ∷ xs) (y ∷ ys) same = ap suc (zip-length xs ys (let one : suc (length xs) ≡ suc (length ys) = same in let less : length xs ≡ length ys = omega arith in less))

-- ---- the entries of a file's pages that a test finds

-- where the file stands behind the page
abbrev found_on : Layout → FileNo → (Entry → Bool) → Log → ℕ
found_on layout file test log = cond (is_same_file file (file_of layout log.page)) (sum_by (λ (e : Entry). from_bool (test e)) log.entries) 0

-- one by one
abbrev found_at : Layout → FileNo → (Entry → Bool) → Page → ℕ → Entry → ℕ
found_at layout file test page place e = cond (is_same_file file (file_of layout page)) (from_bool (test e)) 0

-- a number that counts where the test holds
abbrev counted : Bool → ℕ → ℕ
counted same n = cond same n 0

counted-none : (same : Bool) → counted same 0 ≡ 0
counted-none true = refl
counted-none false = refl

counted-sum : (same : Bool) (n m : ℕ) → counted same (n + m) ≡ counted same n + counted same m
counted-sum true n m = refl
counted-sum false n m = refl

weigh-found : (layout : Layout) (file : FileNo) (test : Entry → Bool) (page : Page) (place : ℕ) (es : List Entry)
    → weigh_from (found_at layout file test) page place es ≡ cond (is_same_file file (file_of layout page)) (sum_by (λ (e : Entry). from_bool (test e)) es) 0
weigh-found layout file test page place [] = sym (counted-none (is_same_file file (file_of layout page)))
weigh-found layout file test page place (e ∷ es) =
    let same : Bool = is_same_file file (file_of layout page) in
    let rest : weigh_from (found_at layout file test) page (suc place) es ≡ cond same (sum_by (λ (x : Entry). from_bool (test x)) es) 0 = weigh-found layout file test page (suc place) es in
    let all : cond same (sum_by (λ (x : Entry). from_bool (test x)) (e ∷ es)) 0 ≡ cond same (from_bool (test e)) 0 + cond same (sum_by (λ (x : Entry). from_bool (test x)) es) 0
    = ap (λ (n : ℕ). cond same n 0) (sum_by-cons (λ (x : Entry). from_bool (test x)) e es) ∙ counted-sum same (from_bool (test e)) (sum_by (λ (x : Entry). from_bool (test x)) es) in
    omega (arith, rest, all)

-- ---- numbers

-- an entry that is a loss by an earlier command of the processor is one by an earlier command
before-than : (same loss cpu less : Bool) → cond same (from_bool (loss && (cpu && less))) 0 ≤ cond same (from_bool (loss && less)) 0
before-than false loss cpu less = omega arith
before-than true false cpu less = omega arith
before-than true true false true = omega arith
before-than true true false false = omega arith
before-than true true true less = omega arith

-- one of another processor is none
not-before : (same loss cpu less : Bool) → cpu ≡ false → cond same (from_bool (loss && (cpu && less))) 0 ≡ 0
not-before false loss cpu less other = refl
not-before true false cpu less other = refl
not-before true true cpu less other = ap (λ (b : Bool). from_bool (b && less)) other

module _ (script : Script) (copies : Who → Option VSlot) (seat : Cpu → ℕ) (turns : List Played) (last : State) (report : Report) (run : IsRunOf script copies seat turns last report) where
  abbrev end : IsEnd script copies seat last report
  end = ended script copies seat turns last report run

  abbrev words : Words
  words = words_of script.layout last.words

  module _ (file : FileNo) where
    -- the entries of a page that the test finds
    abbrev on_page : (Entry → Bool) → ℕ → ℕ
    on_page test q = found_on script.layout file test (record { page = record { 0 = q }; entries = unwrap_or (slice_get report.pages q) [] })

    -- what the bodies at home have of the file are the entries of the report
    home-found : (test : Entry → Bool) (g : Log → ℕ) → ((page : Page) (entries : List Entry) → g (record { page = page; entries = entries }) ≡ found_on script.layout file test (record { page = page; entries = entries }))
        → sum_by (of_home g) last.homes ≡ losses_such test script report file
    home-found test g is =
        home-sum script.layout last report end.board g (on_page test) (λ q entries there. is (record { 0 = q }) entries ∙ ap (λ (o : Option (List Entry)). found_on script.layout file test (record { page = record { 0 = q }; entries = unwrap_or o [] })) (sym there))
        ∙ sym (list-below (found_in test file) (on_page test) (zip script.layout.pages report.pages) at-page ∙ ap (sum_below (on_page test)) pages)
      where
        pages : length {A = PageKind × List Entry} (zip script.layout.pages report.pages) ≡ length report.pages
        pages = zip-length script.layout.pages report.pages (sym end.board.pages_fit) ∙ sym end.board.pages_fit

        at-page : (q : ℕ) (p : PageKind × List Entry) → slice_get {X = PageKind × List Entry} (zip script.layout.pages report.pages) q ≡ Some p → found_in test file p ≡ on_page test q
        at-page q p there =
            let at = zip-at script.layout.pages report.pages q p there in
            ap (λ (o : Option PageKind). cond (is_same_file file (option_and_then file_behind o)) (sum_by (λ (e : Entry). from_bool (test e)) p.1) 0) (sym at.0)
            ∙ ap (λ (o : Option (List Entry)). found_on script.layout file test (record { page = record { 0 = q }; entries = unwrap_or o [] })) (sym at.1)

    -- no view owes a loss
    none-owed : sum_by (owed_of file) (map losing_of last.views) ≡ 0
    none-owed =
        sum-map (owed_of file) losing_of last.views
        ∙ sum-zero (λ (v : View). owed_of file (losing_of v)) last.views
        (λ i v view. ap (λ (d : Debts). sum_by (λ (n : FileNo). from_bool (n.0 == file.0)) d.losses) (nothing script copies seat turns last report run i v view).owed)

    -- the word is the number of losses
    all-lost : (w : ℕ) → slice_get words.losses file.0 ≡ Some w → w ≡ losses_such is_lost script report file
    all-lost w word =
        let balance : w + sum_by (owed_of file) (map losing_of last.views) ≡ sum_bodies (losses_of script.layout file) last.homes (map (λ (v : View). v.bodies) last.views)
        = end.board.holds.rule.histories.losses.balance file w word in
        let home : sum_by (of_home (losses_of script.layout file)) last.homes ≡ losses_such is_lost script report file = home-found is_lost (losses_of script.layout file) (λ page entries. refl) in
        let hands : sum_all (λ (b : InHand). losses_of script.layout file b.log) (map (λ (v : View). v.bodies) last.views) ≡ 0 = no-bodies script.layout last end.board.holds end.board.empty (losses_of script.layout file) in
        omega (arith, balance, none-owed, home, hands)

    agree : (n : ℕ) → slice_get report.files file.0 ≡ Some n → n ≡ losses_such is_lost script report file
    agree n there = all-lost n (sym (ap (λ (l : List ℕ). slice_get l file.0) run.ends.files) ∙ there)

    module _ (cpu : Cpu) (inside : cpu.0 < script.layout.cpus) where
      abbrev view : View
      view = view_of last (seat cpu)

      -- a word that a processor saw is at most the losses of the file
      at-most : (who : Who) (n : ℕ) → file.0 < script.layout.files → Saw view who (places.Loss file) n → n ≤ losses_such is_lost script report file
      at-most who n within saw =
          let s : Sight = saw.1 in
          let word = there-is words.losses file.0 (subst (λ (k : ℕ). file.0 < k) (sym (shaped script.layout last end.board.holds).losses) within) in
          let shown : s.word ≤ word.0 = end.board.holds.rule.histories.losses.shown file word.0 word.1 (seat cpu) view.sights (at_map (λ (v : View). v.sights) last.views (seat cpu) view (end.seated.there cpu inside)) saw.0 s saw.2 saw.3.1 in
          let lost : word.0 ≡ losses_such is_lost script report file = all-lost word.0 word.1 in
          let is : s.word ≡ n = saw.3.2 in
          omega (arith, shown, lost, is)

      -- an entry that is a loss by a command of the processor before this one, among those that views list
      abbrev counts : ℕ → Made → ℕ
      counts seq m = found_at script.layout file (is_lost_before (record { cpu = cpu; seq = seq })) m.page m.place m.entry

      -- losses by earlier commands of the processor are among those that its seat lists of earlier commands
      by-earlier : (seq : ℕ) → losses_such (is_lost_before (record { cpu = cpu; seq = seq })) script report file ≤ earlier_losses script.layout file (record { cpu = cpu; seq = seq }) view
      by-earlier seq =
          let who : Who = record { cpu = cpu; seq = seq } in
          let test : Entry → Bool = is_lost_before (record { cpu = cpu; seq = seq }) in
          let listed : sum_by (of_home (weigh (found_at script.layout file test))) last.homes ≡ sum_by (λ (v : View). sum_by (counts seq) v.made) last.views = balanced script.layout last end.board.holds end.board.empty (found_at script.layout file test) in
          let home : sum_by (of_home (weigh (found_at script.layout file test))) last.homes ≡ losses_such test script report file = home-found test (weigh (found_at script.layout file test)) (λ page entries. weigh-found script.layout file test page 0 entries) in
          let own : sum_by (λ (v : View). sum_by (counts seq) v.made) last.views ≡ sum_by (counts seq) view.made = sum-one (λ (v : View). sum_by (counts seq) v.made) last.views (seat cpu) view (end.seated.there cpu inside) others in
          let few : sum_by (counts seq) view.made ≤ earlier_losses script.layout file who view = sum_by-le-sum_by (counts seq) _ view.made (λ m. before-than (is_same_file file (file_of script.layout m.page)) (is_loss m.entry.what) (m.entry.who.cpu.0 == cpu.0) (nat_lt m.entry.who.seq seq)) in
          omega (arith, listed, home, own, few)
        where
          others : (i : ℕ) (v : View) → i ≢ seat cpu → slice_get last.views i ≡ Some v → sum_by (counts seq) v.made ≡ 0
          others i v differs there = sum-zero (counts seq) v.made (λ j m made.
              not-before (is_same_file file (file_of script.layout m.page)) (is_loss m.entry.what) (m.entry.who.cpu.0 == cpu.0) (nat_lt m.entry.who.seq seq)
              (false_from_ne_true (m.entry.who.cpu.0 == cpu.0) (λ yes_.
              let at = seat-place script.layout seat last end.board.holds end.seated i v m.entry.who there ((end.board.holds.rule.processors.commands.own i v there).made j m made) in
              differs (at.1 ∙ ap (λ (n : ℕ). seat (record { 0 = n })) (eqb-true m.entry.who.cpu.0 cpu.0 yes_)))))

  -- what an earlier command of the processor was shown of the losses is at most what a later one was
  rising : (cpu : Cpu) → cpu.0 < script.layout.cpus → (file : FileNo) (j i n m : ℕ) → j < i → Saw (view_of last (seat cpu)) (record { cpu = cpu; seq = j }) (places.Loss file) n → Saw (view_of last (seat cpu)) (record { cpu = cpu; seq = i }) (places.Loss file) m → n ≤ m
  rising cpu inside file j i n m less first second =
      let s : Sight = first.1 in
      let t : Sight = second.1 in
      let each = run-keeps script.layout (λ (b : State) (v : View). AreRisingSights v.sights) (sights-kept script.layout) turns last run.rule run.moves (seat cpu) (view_of last (seat cpu)) (end.seated.there cpu inside) in
      let earlier : IsEarlier s.stamp.who t.stamp.who = subst (λ (w : Who). IsEarlier w t.stamp.who) (sym first.3.0) (subst (IsEarlier (record { cpu = cpu; seq = j })) (sym second.3.0) (refl, less)) in
      let at : s.word ≤ t.word = each second.0 t second.2 first.0 s first.2 file first.3.1 second.3.1 earlier in
      let low : s.word ≡ n = first.3.2 in
      let high : t.word ≡ m = second.3.2 in
      omega (arith, at, low, high)

  -- the number that an answer tells agrees with the losses
  is-number : (file : FileNo) (cpu : Cpu) (list : List Command) (rows : List CpuLine) → file.0 < script.layout.files → slice_get script.lists cpu.0 ≡ Some list → slice_get report.cpus cpu.0 ≡ Some rows
      → (i : ℕ) (p : Command × Answer) → slice_get {X = Command × Answer} (answered list rows) i ≡ Some p → tells_number file p.0 p.1 ≡ true → IsNumber script report file cpu (answered list rows) i
  is-number file cpu list rows within list_is rows_is i p there tells =
      let known = number-known script copies seat last report end cpu list rows list_is rows_is file i p there tells in
      let now : ℕ = numbers_after file 0 (take (i + 1) (answered list rows)) in
      let covers : earlier_losses script.layout file (record { cpu = cpu; seq = i }) (view_of last (seat cpu)) ≤ now = known.1.1 in
      let earlier : losses_such (is_lost_before (record { cpu = cpu; seq = i })) script report file ≤ earlier_losses script.layout file (record { cpu = cpu; seq = i }) (view_of last (seat cpu)) = by-earlier file cpu known.0 i in
      record {
        rises = from-zero (told-before file (answered list rows) i (let inside : i < length {A = Command × Answer} (answered list rows) = slice_get_within (answered list rows) i p there in omega (arith, inside)));
        within = at-most file cpu known.0 (record { cpu = cpu; seq = i }) now within known.1.0;
        covers = omega (arith, covers, earlier);
      }
    where
      -- what an earlier command told, its step showed, and the word has not fallen since
      not-above : (j : ℕ) (q : Command × Answer) → j < i → slice_get {X = Command × Answer} (answered list rows) j ≡ Some q → tells_number file q.0 q.1 ≡ true
          → numbers_after file 0 (take (j + 1) (answered list rows)) ≤ numbers_after file 0 (take (i + 1) (answered list rows))
      not-above j q less at told =
          let first = number-known script copies seat last report end cpu list rows list_is rows_is file j q at told in
          let second = number-known script copies seat last report end cpu list rows list_is rows_is file i p there tells in
          rising cpu first.0 file j i (numbers_after file 0 (take (j + 1) (answered list rows))) (numbers_after file 0 (take (i + 1) (answered list rows))) less first.1.0 second.1.0

      from-zero : (numbers_after file 0 (take i (answered list rows)) ≡ 0) ⊎ IsToldBefore file (answered list rows) i → numbers_after file 0 (take i (answered list rows)) ≤ numbers_after file 0 (take (i + 1) (answered list rows))
      from-zero (inl none) = omega (arith, none)
      from-zero (inr told) = subst (λ (n : ℕ). n ≤ numbers_after file 0 (take (i + 1) (answered list rows))) told.same (not-above told.place told.pair told.before told.there told.tells)

  pub losses-lawful : LossesAgree script report
  losses-lawful = record {
    files_fit = ap (λ (l : List ℕ). length l) run.ends.files ∙ (shaped script.layout last end.board.holds).losses;
    lost = agree;
    numbers = is-number;
  }
