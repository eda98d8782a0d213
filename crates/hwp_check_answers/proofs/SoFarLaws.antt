-- What the lines before an answer tell, kept line by line.
use Rattle.std.proofs.Common.{◌≡◌, ◌⊎◌, inl, inr, ℕ, ◌+◌, ◌<◌, Bool, true, false, List, [], ◌∷◌, ◌++◌, Option, Some, None, fold, get_or, set, replicate, length, slice_get, take, unwrap_or, refl, sym, ap, ◌∙◌, subst, true≢false, arith}
use Rattle.std.proofs.lemmas.Bool.{cases_eq, cases_lt}
use Rattle.std.proofs.lemmas.List.{get_or-set_same, get_or-set_other, get_or_past, get_or-replicate, length-replicate, length-set, take_more}
use Rattle.std.proofs.lemmas.Option.{get_or_from_slice_get, none-some, same_Some, slice_get_within}
use Rattle.hwp_check_evidence.specs.hwp_geom.declared.Cpu.{Cpu}
use Rattle.hwp_check_evidence.specs.hwp_geom.declared.Page.{Page}
use Rattle.hwp_check_evidence.specs.hwp_geom.declared.Proc.{Proc}
use Rattle.hwp_check_evidence.specs.hwp_geom.declared.Who.{Who}
use Rattle.hwp_check_evidence.specs.hwp_script_words.declared.Script.{Script}
use Rattle.hwp_check_evidence.specs.hwp_report_text.declared.Answer.{Answer}
use Rattle.hwp_check_evidence.specs.hwp_report_text.declared.Answer.TheVariants as answers
use Rattle.hwp_check_evidence.specs.hwp_report_text.declared.CpuLine.{CpuLine}
use Rattle.hwp_check_evidence.specs.hwp_report_text.declared.CpuLine.TheVariants as lines
use Rattle.hwp_check_evidence.specs.hwp_report_text.declared.Report.{Report}
use Rattle.hwp_check_evidence.specs.hwp_law.Commands.{process_at}
use Rattle.hwp_check_evidence.specs.hwp_law.Lines.{answer_among, answer_of, seq_of}
use Rattle.hwp_check_evidence.specs.Windows.{AreOfEarlier, floors_of, raised}
use Rattle.hwp_check_evidence.proofs.ListItems.{item_of_push}
use Rattle.hwp_check_rules.specs.Answered.{is_answer}
use Rattle.hwp_check_answers.specs.declared.judging.LinesSoFar.{LinesSoFar}
use Rattle.hwp_check_answers.specs.Judging.{HadGone, AreSoFar, IsNextOf, gone_after, gone_by, next_seq, process_numbers}

no-flag : (n k : ℕ) → get_or (replicate {A = Bool} n false) k false ≡ false
no-flag n k = elim (cases_lt k n) [
  | inl inside ↦ get_or-replicate {A = Bool} n k false false inside
  | inr past ↦ get_or_past (replicate {A = Bool} n false) k false (let many : length (replicate {A = Bool} n false) ≡ n = length-replicate {A = Bool} n false in omega (arith, many, past))
]

pub begins : (script : Script) (report : Report) (cpu : Cpu) (so_far : LinesSoFar) → so_far.floors.items ≡ floors_of (length report.pages) [] → so_far.gone.items ≡ replicate process_numbers false
    → AreSoFar script report [] (record { cpu = cpu; seq = 0 }) so_far
begins script report cpu so_far floors gone = record {
  floors = floors;
  earlier = λ i seq answer is. absurd (none-some _ is);
  many = ap length gone ∙ length-replicate {A = Bool} process_numbers false;
  gone = λ process small. (
    λ set. absurd (true≢false (sym set ∙ ap (λ (l : List Bool). get_or l process.0 false) gone ∙ no-flag process_numbers process.0)),
    λ had. absurd (let low : had.who.seq < 0 = had.before.1 in omega (arith, low)),
  );
}

-- one line more
fold-push : {A B : Type 0} (f : A → B → A) (s : A) (xs : List B) (y : B) → fold f s (xs ++ y ∷ []) ≡ f (fold f s xs) y
fold-push f s [] y = refl
fold-push f s (x ∷ xs) y = fold-push f (f s x) xs y

take-next : {A : Type 0} (xs : List A) (n : ℕ) (x : A) → slice_get xs n ≡ Some x → take (n + 1) xs ≡ take n xs ++ x ∷ []
take-next xs n x there = take_more xs n x (slice_get_within xs n x there) ∙ ap (λ y. take n xs ++ y ∷ []) (get_or_from_slice_get xs n x x there)

module _ (process : Proc) where
  -- the answer says that the process had ended
  record SaysGone (o : Option Proc) (answer : Answer) : Type 0 where
    page : Page
    own : o ≡ Some process
    gone : answer ≡ answers.Gone page

  abbrev IsSet : List Bool → Type 0
  IsSet gone = get_or gone process.0 false ≡ true

  same-process : (q : Proc) → process.0 ≡ q.0 → Some q ≡ Some process
  same-process q is = λ i. Some (record { 0 = sym is i })

  set-after : (o : Option Proc) (answer : Answer) (gone : List Bool) → process.0 < length gone → IsSet (gone_after gone o answer) → (IsSet gone) ⊎ SaysGone o answer
  set-after None answer gone inside is = inl is
  set-after (Some q) (answers.Gone page) gone inside is = elim (cases_eq process.0 q.0) [
    | inl here ↦ inr (record { page = page; own = same-process q here; gone = refl })
    | inr other ↦ inl (sym (get_or-set_other gone q.0 process.0 true false other) ∙ is)
  ]
  set-after (Some q) answer gone inside is = inl is

  old-after : (o : Option Proc) (answer : Answer) (gone : List Bool) → process.0 < length gone → IsSet gone → IsSet (gone_after gone o answer)
  old-after None answer gone inside is = is
  old-after (Some q) (answers.Gone page) gone inside is = elim (cases_eq process.0 q.0) [
    | inl here ↦ subst (λ (m : ℕ). get_or (set gone m true) process.0 false ≡ true) here (get_or-set_same gone process.0 true false inside)
    | inr other ↦ get_or-set_other gone q.0 process.0 true false other ∙ is
  ]
  old-after (Some q) answer gone inside is = is

  new-after : (o : Option Proc) (answer : Answer) (gone : List Bool) → process.0 < length gone → SaysGone o answer → IsSet (gone_after gone o answer)
  new-after o answer gone inside says =
      subst (λ (p : Option Proc). IsSet (gone_after gone p answer)) (sym says.own)
      (subst (λ (a : Answer). IsSet (gone_after gone (Some process) a)) (sym says.gone) (get_or-set_same gone process.0 true false inside))

after-many : (o : Option Proc) (answer : Answer) (gone : List Bool) → length (gone_after gone o answer) ≡ length gone
after-many None answer gone = refl
after-many (Some q) (answers.Gone page) gone = length-set gone q.0 true
after-many (Some q) answer gone = refl

module _ (script : Script) (report : Report) (cpu : Cpu) (rows : List CpuLine) (of_report : slice_get report.cpus cpu.0 ≡ Some rows) where
  abbrev at_seq : ℕ → Who
  at_seq seq = record { cpu = cpu; seq = seq }

  answer-is : (seq : ℕ) → answer_of report (at_seq seq) ≡ answer_among rows seq
  answer-is seq = ap (λ (o : Option (List CpuLine)). answer_among (unwrap_or o []) seq) of_report

  had-next : (seq : ℕ) (answer : Answer) (process : Proc) → answer_among rows seq ≡ Some answer → HadGone script report (at_seq (seq + 1)) process
      → HadGone script report (at_seq seq) process ⊎ SaysGone process (process_at script (at_seq seq)) answer
  had-next seq answer process is h = elim (cases_lt h.who.seq seq) [
    | inl low ↦ inl (record { who = h.who; gone = h.gone; before = (h.before.0, low) })
    | inr high ↦
        let less : h.who.seq < seq + 1 = h.before.1 in
        let number : h.who.seq ≡ seq = omega (arith, high, less) in
        let who_is : h.who ≡ at_seq seq = λ i. record { cpu = h.before.0 i; seq = number i } in
        inr (record {
          page = h.gone.page;
          own = ap (process_at script) (sym who_is) ∙ h.gone.process_is;
          gone = same_Some _ _ (sym is ∙ sym (answer-is seq) ∙ ap (answer_of report) (sym who_is) ∙ h.gone.answered);
        })
  ]

  old-next : (seq : ℕ) (process : Proc) → HadGone script report (at_seq seq) process → HadGone script report (at_seq (seq + 1)) process
  old-next seq process h = record { who = h.who; gone = h.gone; before = (h.before.0, let low : h.who.seq < seq = h.before.1 in omega (arith, low)) }

  new-next : (seq : ℕ) (answer : Answer) (process : Proc) → answer_among rows seq ≡ Some answer → SaysGone process (process_at script (at_seq seq)) answer → HadGone script report (at_seq (seq + 1)) process
  new-next seq answer process is says = record {
    who = at_seq seq;
    gone = record { process_is = says.own; page = says.page; answered = answer-is seq ∙ is ∙ ap Some says.gone };
    before = (refl, omega arith);
  }

  earlier-next : (row seq : ℕ) (line : CpuLine) → slice_get rows row ≡ Some line → seq_of line ≡ seq → AreOfEarlier (take row rows) seq → AreOfEarlier (take (row + 1) rows) (seq + 1)
  earlier-next row seq line there own earlier i s answer is = elim (item_of_push (take row rows) line i (lines.Answer s answer) (subst (λ (l : List CpuLine). slice_get l i ≡ Some (lines.Answer s answer)) (take-next rows row line there) is)) [
    | inl old ↦ let low : s < seq = earlier i s answer old in omega (arith, low)
    | inr new ↦ let number : s ≡ seq = sym (ap seq_of new.1) ∙ own in omega (arith, number)
  ]

  earlier-event : (row seq : ℕ) (line : CpuLine) → slice_get rows row ≡ Some line → is_answer line ≡ false → AreOfEarlier (take row rows) seq → AreOfEarlier (take (row + 1) rows) seq
  earlier-event row seq line there event earlier i s answer is = elim (item_of_push (take row rows) line i (lines.Answer s answer) (subst (λ (l : List CpuLine). slice_get l i ≡ Some (lines.Answer s answer)) (take-next rows row line there) is)) [
    | inl old ↦ earlier i s answer old
    | inr new ↦ absurd (true≢false (sym (ap is_answer new.1) ∙ event))
  ]

  floors-next : (row : ℕ) (line : CpuLine) → slice_get rows row ≡ Some line → floors_of (length report.pages) (take (row + 1) rows) ≡ raised (floors_of (length report.pages) (take row rows)) line
  floors-next row line there = ap (floors_of (length report.pages)) (take-next rows row line there) ∙ fold-push raised (replicate (length report.pages) 0) (take row rows) line

  -- what the lines before tell, with one line more
  pub so_far_next : (row seq : ℕ) (line : CpuLine) (so_far after : LinesSoFar) → slice_get rows row ≡ Some line → IsNextOf rows seq line → AreSoFar script report (take row rows) (at_seq seq) so_far
      → after.floors.items ≡ raised so_far.floors.items line → after.gone.items ≡ gone_by script cpu so_far.gone.items line → AreSoFar script report (take (row + 1) rows) (at_seq (next_seq seq line)) after
  so_far_next row seq (lines.Event line) so_far after there next is floors gone = record {
    floors = floors ∙ ap (λ (f : List ℕ). raised f (lines.Event line)) is.floors ∙ sym (floors-next row (lines.Event line) there);
    earlier = earlier-event row seq (lines.Event line) there refl is.earlier;
    many = ap length gone ∙ is.many;
    gone = λ process small. (λ set. (is.gone process small).0 (sym (ap (λ (l : List Bool). get_or l process.0 false) gone) ∙ set), λ had. ap (λ (l : List Bool). get_or l process.0 false) gone ∙ (is.gone process small).1 had);
  }
  so_far_next row seq (lines.Offlined line) so_far after there next is floors gone = record {
    floors = floors ∙ ap (λ (f : List ℕ). raised f (lines.Offlined line)) is.floors ∙ sym (floors-next row (lines.Offlined line) there);
    earlier = earlier-event row seq (lines.Offlined line) there refl is.earlier;
    many = ap length gone ∙ is.many;
    gone = λ process small. (λ set. (is.gone process small).0 (sym (ap (λ (l : List Bool). get_or l process.0 false) gone) ∙ set), λ had. ap (λ (l : List Bool). get_or l process.0 false) gone ∙ (is.gone process small).1 had);
  }
  so_far_next row seq (lines.Guest line) so_far after there next is floors gone = record {
    floors = floors ∙ ap (λ (f : List ℕ). raised f (lines.Guest line)) is.floors ∙ sym (floors-next row (lines.Guest line) there);
    earlier = earlier-event row seq (lines.Guest line) there refl is.earlier;
    many = ap length gone ∙ is.many;
    gone = λ process small. (λ set. (is.gone process small).0 (sym (ap (λ (l : List Bool). get_or l process.0 false) gone) ∙ set), λ had. ap (λ (l : List Bool). get_or l process.0 false) gone ∙ (is.gone process small).1 had);
  }
  so_far_next row seq (lines.Answer s answer) so_far after there next is floors gone = record {
    floors = floors ∙ ap (λ (f : List ℕ). raised f (lines.Answer s answer)) is.floors ∙ sym (floors-next row (lines.Answer s answer) there);
    earlier = earlier-next row seq (lines.Answer s answer) there next.of_next is.earlier;
    many = ap length flags ∙ after-many (process_at script (at_seq seq)) answer so_far.gone.items ∙ is.many;
    gone = λ process small. (λ set. forth process small (sym (ap (λ (l : List Bool). get_or l process.0 false) flags) ∙ set), λ had. ap (λ (l : List Bool). get_or l process.0 false) flags ∙ back process small had);
  }
    where
      flags : after.gone.items ≡ gone_after so_far.gone.items (process_at script (at_seq seq)) answer
      flags = gone ∙ ap (λ (n : ℕ). gone_after so_far.gone.items (process_at script (at_seq n)) answer) next.of_next

      told : answer_among rows seq ≡ Some answer
      told = next.first answer (ap (λ (n : ℕ). lines.Answer n answer) next.of_next)

      inside : (process : Proc) → process.0 < process_numbers → process.0 < length so_far.gone.items
      inside process small = subst (λ (n : ℕ). process.0 < n) (sym is.many) small

      forth : (process : Proc) → process.0 < process_numbers → get_or (gone_after so_far.gone.items (process_at script (at_seq seq)) answer) process.0 false ≡ true → HadGone script report (at_seq (seq + 1)) process
      forth process small set = elim (set-after process (process_at script (at_seq seq)) answer so_far.gone.items (inside process small) set) [
        | inl old ↦ old-next seq process ((is.gone process small).0 old)
        | inr says ↦ new-next seq answer process told says
      ]

      back : (process : Proc) → process.0 < process_numbers → HadGone script report (at_seq (seq + 1)) process → get_or (gone_after so_far.gone.items (process_at script (at_seq seq)) answer) process.0 false ≡ true
      back process small had = elim (had-next seq answer process told had) [
        | inl old ↦ old-after process (process_at script (at_seq seq)) answer so_far.gone.items (inside process small) ((is.gone process small).1 old)
        | inr says ↦ new-after process (process_at script (at_seq seq)) answer so_far.gone.items (inside process small) says
      ]
