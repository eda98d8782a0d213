-- The lowest lines that earlier commands of a processor marked.
use Rattle.std.proofs.Common.{◌≡◌, ◌⊎◌, inl, inr, ℕ, zero, suc, ◌+◌, ◌*◌, ◌<◌, ◌≤◌, ◌==◌, min, Bool, true, false, cond, List, [], ◌∷◌, Option, Some, None, fold, slice_get, take, unwrap_or, IsSomeAnd, refl, sym, ap, ◌∙◌, subst, arith}
use Rattle.std.specs.Option.{option_and_then}
use Rattle.std.proofs.lemmas.Bool.{cases_lt, eq-eqb, eqb-true, true≢false}
use Rattle.std.proofs.lemmas.Option.{none-some, same_Some}
use Rattle.hwp_banks.specs.hwp_geom.Limits.{line_limit}
use Rattle.hwp_banks.specs.hwp_geom.declared.Cpu.{Cpu}
use Rattle.hwp_banks.specs.hwp_geom.declared.Frame.{Frame}
use Rattle.hwp_banks.specs.hwp_geom.declared.Who.{Who}
use Rattle.hwp_banks.specs.declared.Origin.{Origin}
use Rattle.hwp_banks.specs.declared.Origin.TheVariants as origins
use Rattle.hwp_law.specs.hwp_page.Orders.{IsEarlier}
use Rattle.hwp_law.specs.hwp_script_words.declared.Command.{Command}
use Rattle.hwp_law.specs.hwp_script_words.declared.Command.TheVariants as commands
use Rattle.hwp_law.specs.hwp_script_words.declared.Script.{Script}
use Rattle.hwp_law.specs.hwp_report_text.declared.Answer.{Answer}
use Rattle.hwp_law.specs.hwp_report_text.declared.Answer.TheVariants as answers
use Rattle.hwp_law.specs.hwp_report_text.declared.Report.{Report}
use Rattle.hwp_law.specs.Events.{MeetsMarked, marking}
use Rattle.hwp_law.specs.Lines.{answer_of}
use Rattle.hwp_law.specs.Commands.{command_at}
use Rattle.hwp_check_event_line.specs.Misfits.{commands_before, is_scrubbed, low_of}
use Rattle.hwp_check_event_line.specs.Scrubs.{lowest, marked_at, place_of}
use Rattle.hwp_check_event_line.proofs.ScrubForth.{MeetsLow}

-- items of the beginning of a list
get-take : {X : Type 0} (xs : List X) (n i : ℕ) (x : X) → slice_get xs i ≡ Some x → i < n → slice_get (take n xs) i ≡ Some x
get-take [] n i x there less = absurd (none-some x there)
get-take (y ∷ ys) zero i x there less = absurd (omega (arith, less))
get-take (y ∷ ys) (suc n) zero x there less = there
get-take (y ∷ ys) (suc n) (suc i) x there less = get-take ys n i x there (omega (arith, less))

take-get : {X : Type 0} (xs : List X) (n i : ℕ) (x : X) → slice_get (take n xs) i ≡ Some x → (slice_get xs i ≡ Some x) × (i < n)
take-get [] zero i x there = absurd (none-some x there)
take-get [] (suc n) i x there = absurd (none-some x there)
take-get (y ∷ ys) zero i x there = absurd (none-some x there)
take-get (y ∷ ys) (suc n) zero x there = (there, omega arith)
take-get (y ∷ ys) (suc n) (suc i) x there = let rest = take-get ys n i x there in (rest.0, let l : i < n = rest.1 in omega (arith, l))

-- an item of a list that there may be
read-list : {X : Type 0} (o : Option (List X)) (i : ℕ) (x : X) → option_and_then (λ (l : List X). slice_get l i) o ≡ Some x → slice_get (unwrap_or o []) i ≡ Some x
read-list None i x there = absurd (none-some x there)
read-list (Some l) i x there = there

list-read : {X : Type 0} (o : Option (List X)) (i : ℕ) (x : X) → slice_get (unwrap_or o []) i ≡ Some x → option_and_then (λ (l : List X). slice_get l i) o ≡ Some x
list-read None i x there = absurd (none-some x there)
list-read (Some l) i x there = there

-- what a command marks at a place
marks-own : (origin : Origin) (frame : Frame) (line : ℕ) → marked_at (place_of origin frame.0) (marking origin frame line) ≡ line
marks-own origins.WeakLine frame line = ap (λ (b : Bool). cond b line line_limit) (eq-eqb (2 * frame.0 + 1) (2 * frame.0 + 1) refl)
marks-own origins.BadLine frame line = ap (λ (b : Bool). cond b line line_limit) (eq-eqb (2 * frame.0) (2 * frame.0) refl)
marks-own origins.Access frame line = ap (λ (b : Bool). cond b line line_limit) (eq-eqb (2 * frame.0) (2 * frame.0) refl)
marks-own origins.Fetch frame line = ap (λ (b : Bool). cond b line line_limit) (eq-eqb (2 * frame.0) (2 * frame.0) refl)

abbrev frame_of : ℕ → Frame
frame_of n = record { 0 = n }

-- it marks nothing, or the place is its own
cond-less : (b : Bool) (line : ℕ) → cond b line line_limit < line_limit → b ≡ true
cond-less true line less = refl
cond-less false line less = absurd (let l : 64 < 64 = less in omega (arith, l))

bad-marks : (frame other : Frame) (line : ℕ) → cond (2 * other.0 == 2 * frame.0) line line_limit < line_limit → commands.Bad other line ≡ commands.Bad frame (cond (2 * other.0 == 2 * frame.0) line line_limit)
bad-marks frame other line less =
    let is = cond-less (2 * other.0 == 2 * frame.0) line less in
    let same : 2 * other.0 ≡ 2 * frame.0 = eqb-true _ _ is in
    let e : other.0 ≡ frame.0 = omega (arith, same) in
    ap (λ (n : ℕ). commands.Bad (frame_of n) line) e ∙ ap (λ (b : Bool). commands.Bad frame (cond b line line_limit)) (sym is)

weak-marks : (frame other : Frame) (line : ℕ) → cond (2 * other.0 + 1 == 2 * frame.0 + 1) line line_limit < line_limit → commands.Weak other line ≡ commands.Weak frame (cond (2 * other.0 + 1 == 2 * frame.0 + 1) line line_limit)
weak-marks frame other line less =
    let is = cond-less (2 * other.0 + 1 == 2 * frame.0 + 1) line less in
    let same : 2 * other.0 + 1 ≡ 2 * frame.0 + 1 = eqb-true _ _ is in
    let e : other.0 ≡ frame.0 = omega (arith, same) in
    ap (λ (n : ℕ). commands.Weak (frame_of n) line) e ∙ ap (λ (b : Bool). commands.Weak frame (cond b line line_limit)) (sym is)

odd-even : {P : Type 0} (a b : ℕ) → 2 * a + 1 ≡ 2 * b → P
odd-even a b same = absurd (omega (arith, same))

marks-of : (origin : Origin) (frame : Frame) (c : Command) → marked_at (place_of origin frame.0) c < line_limit → c ≡ marking origin frame (marked_at (place_of origin frame.0) c)
marks-of origins.WeakLine frame (commands.Weak other line) less = weak-marks frame other line less
marks-of origins.WeakLine frame (commands.Bad other line) less = odd-even frame.0 other.0 (sym (eqb-true _ _ (cond-less (2 * other.0 == 2 * frame.0 + 1) line less)))
marks-of origins.WeakLine frame _ less = absurd (let l : 64 < 64 = less in omega (arith, l))
marks-of origins.BadLine frame (commands.Bad other line) less = bad-marks frame other line less
marks-of origins.BadLine frame (commands.Weak other line) less = odd-even other.0 frame.0 (eqb-true _ _ (cond-less (2 * other.0 + 1 == 2 * frame.0) line less))
marks-of origins.BadLine frame _ less = absurd (let l : 64 < 64 = less in omega (arith, l))
marks-of origins.Access frame (commands.Bad other line) less = bad-marks frame other line less
marks-of origins.Access frame (commands.Weak other line) less = odd-even other.0 frame.0 (eqb-true _ _ (cond-less (2 * other.0 + 1 == 2 * frame.0) line less))
marks-of origins.Access frame _ less = absurd (let l : 64 < 64 = less in omega (arith, l))
marks-of origins.Fetch frame (commands.Bad other line) less = bad-marks frame other line less
marks-of origins.Fetch frame (commands.Weak other line) less = odd-even other.0 frame.0 (eqb-true _ _ (cond-less (2 * other.0 + 1 == 2 * frame.0) line less))
marks-of origins.Fetch frame _ less = absurd (let l : 64 < 64 = less in omega (arith, l))

-- the lowest of what commands mark at a place
module _ (place : ℕ) where
  abbrev pub from : ℕ → List Command → ℕ
  from start list = fold (λ (low : ℕ) (c : Command). min low (marked_at place c)) start list

  pub from-start : (list : List Command) (start : ℕ) → from start list ≤ start
  from-start [] start = omega arith
  from-start (c ∷ cs) start = let rest : from (min start (marked_at place c)) cs ≤ min start (marked_at place c) = from-start cs (min start (marked_at place c)) in omega (arith, rest)

  from-each : (list : List Command) (start i : ℕ) (c : Command) → slice_get list i ≡ Some c → from start list ≤ marked_at place c
  from-each [] start i c there = absurd (none-some c there)
  from-each (d ∷ ds) start zero c there =
      let rest : from (min start (marked_at place d)) ds ≤ min start (marked_at place d) = from-start ds (min start (marked_at place d)) in
      let same : marked_at place d ≡ marked_at place c = ap (marked_at place) (same_Some _ _ there) in
      omega (arith, rest, same)
  from-each (d ∷ ds) start (suc i) c there = from-each ds (min start (marked_at place d)) i c there

  record Least (list : List Command) (low : ℕ) : Type 0 where
    number : ℕ
    command : Command
    there : slice_get list number ≡ Some command
    is : marked_at place command ≡ low

  from-some : (list : List Command) (start : ℕ) → (from start list ≡ start) ⊎ Least list (from start list)
  from-some [] start = inl refl
  from-some (c ∷ cs) start = elim (from-some cs (min start (marked_at place c))) [
    | inl at ↦ elim (cases_lt (marked_at place c) start) [
      | inl less ↦ inr (record { number = 0; command = c; there = refl; is = let e : from (min start (marked_at place c)) cs ≡ min start (marked_at place c) = at in omega (arith, e, less) })
      | inr more ↦ inl (let e : from (min start (marked_at place c)) cs ≡ min start (marked_at place c) = at in omega (arith, e, more))
    ]
    | inr l ↦ inr (record { number = suc l.number; command = l.command; there = l.there; is = l.is })
  ]

-- marks of commands are lines
abbrev pub HasLines : Script → Type 0
HasLines script = (who : Who) (origin : Origin) (frame : Frame) (line : ℕ) → command_at script who ≡ Some (marking origin frame line) → line < line_limit

module _ (script : Script) (report : Report) (who : Who) where
  abbrev list : List Command
  list = commands_before script who

  abbrev low : ℕ → ℕ
  low place = low_of script report who place

  pub most : (place : ℕ) → low place ≤ line_limit
  most place = by (is_scrubbed (answer_of report who))
    where
      by : (b : Bool) → cond b (lowest list place) line_limit ≤ line_limit
      by true = from-start place list line_limit
      by false = omega arith

  abbrev cpu_of : ℕ → Who
  cpu_of n = record { cpu = who.cpu; seq = n }

  before-at : (n : ℕ) (c : Command) → slice_get list n ≡ Some c → (command_at script (cpu_of n) ≡ Some c) × (n < who.seq)
  before-at n c there = let parts = take-get (unwrap_or (slice_get script.lists who.cpu.0) []) who.seq n c there in (list-read (slice_get script.lists who.cpu.0) n c parts.0, parts.1)

  at-before : (earlier : Who) (c : Command) → IsEarlier earlier who → command_at script earlier ≡ Some c → slice_get list earlier.seq ≡ Some c
  at-before earlier c before made =
      get-take (unwrap_or (slice_get script.lists who.cpu.0) []) who.seq earlier.seq c
      (read-list (slice_get script.lists who.cpu.0) earlier.seq c (subst (λ (p : Cpu). option_and_then (λ (l : List Command). slice_get l earlier.seq) (slice_get script.lists p.0) ≡ Some c) before.0 made)) before.1

  said : (a : Option Answer) → is_scrubbed a ≡ true → (n : ℕ) × (a ≡ Some (answers.Scrubbed n))
  said (Some (answers.Scrubbed n)) is = (n, refl)
  said None is = absurd (true≢false (sym is))
  said (Some _) is = absurd (true≢false (sym is))

  pub lows : (origin : Origin) (frame : Frame) (met : Option ℕ) → ((at : ℕ) → met ≡ Some at → at < 64) → MeetsMarked script report who origin frame met → MeetsLow low (place_of origin frame.0) met
  lows origin frame met small marked = by (is_scrubbed (answer_of report who)) refl
    where
      none-marked : (m : Option ℕ) → ((at : ℕ) → m ≡ Some at → at < 64) → (n : ℕ) → n ≡ line_limit → MeetsLow (λ (p : ℕ). n) 0 m
      none-marked None less n is = is
      none-marked (Some at) less n is = let l : at < 64 = less at refl in let e : n ≡ 64 = is in omega (arith, l, e)

      reach : (m : Option ℕ) (n : ℕ) → IsSomeAnd m (λ (k : ℕ). k ≤ n) → MeetsLow (λ (p : ℕ). n) 0 m
      reach None n none = absurd none
      reach (Some at) n less = less

      whole : is_scrubbed (answer_of report who) ≡ true → MeetsLow (λ (p : ℕ). lowest list (place_of origin frame.0)) 0 met
      whole is = elim (from-some (place_of origin frame.0) list line_limit) [
        | inl at ↦ none-marked met small (lowest list (place_of origin frame.0)) at
        | inr l ↦ elim (cases_lt (lowest list (place_of origin frame.0)) line_limit) [
          | inl less ↦
              let answered = said (answer_of report who) is in
              let at = before-at l.number l.command l.there in
              let mark : l.command ≡ marking origin frame (lowest list (place_of origin frame.0)) =
              marks-of origin frame l.command (subst (λ (n : ℕ). n < line_limit) (sym l.is) less) ∙ ap (marking origin frame) l.is in
              reach met (lowest list (place_of origin frame.0)) (marked answered.0 (lowest list (place_of origin frame.0)) (cpu_of l.number) answered.1 (refl, at.1) (at.0 ∙ ap Some mark))
          | inr more ↦ none-marked met small (lowest list (place_of origin frame.0)) (let m : from (place_of origin frame.0) line_limit list ≤ 64 = from-start (place_of origin frame.0) list line_limit in let n : 64 ≤ lowest list (place_of origin frame.0) = more in let e : lowest list (place_of origin frame.0) ≡ 64 = omega (arith, m, n) in e)
        ]
      ]

      by : (b : Bool) → is_scrubbed (answer_of report who) ≡ b → MeetsLow low (place_of origin frame.0) met
      by true is = to-low met (subst (λ (n : ℕ). MeetsLow (λ (p : ℕ). n) 0 met) (sym (ap (λ (b : Bool). cond b (lowest list (place_of origin frame.0)) line_limit) is)) (whole is))
        where
          to-low : (m : Option ℕ) → MeetsLow (λ (p : ℕ). low (place_of origin frame.0)) 0 m → MeetsLow low (place_of origin frame.0) m
          to-low None x = x
          to-low (Some at) x = x
      by false is = to-low met (none-marked met small (low (place_of origin frame.0)) (ap (λ (b : Bool). cond b (lowest list (place_of origin frame.0)) line_limit) is))
        where
          to-low : (m : Option ℕ) → MeetsLow (λ (p : ℕ). low (place_of origin frame.0)) 0 m → MeetsLow low (place_of origin frame.0) m
          to-low None x = x
          to-low (Some at) x = x

  pub backs : HasLines script → (origin : Origin) (frame : Frame) (met : Option ℕ) → MeetsLow low (place_of origin frame.0) met → MeetsMarked script report who origin frame met
  backs lines origin frame met meets = λ n line earlier answered before made. by met meets (line-low n line earlier answered before made) (lines earlier origin frame line made)
    where
      line-low : (n line : ℕ) (earlier : Who) → answer_of report who ≡ Some (answers.Scrubbed n) → IsEarlier earlier who → command_at script earlier ≡ Some (marking origin frame line) → low (place_of origin frame.0) ≤ line
      line-low n line earlier answered before made =
          let is : low (place_of origin frame.0) ≡ lowest list (place_of origin frame.0) = ap (λ (a : Option Answer). cond (is_scrubbed a) (lowest list (place_of origin frame.0)) line_limit) answered in
          let each : lowest list (place_of origin frame.0) ≤ marked_at (place_of origin frame.0) (marking origin frame line) = from-each (place_of origin frame.0) list line_limit earlier.seq (marking origin frame line) (at-before earlier (marking origin frame line) before made) in
          let own : marked_at (place_of origin frame.0) (marking origin frame line) ≡ line = marks-own origin frame line in
          omega (arith, is, each, own)

      by : (m : Option ℕ) → MeetsLow low (place_of origin frame.0) m → {line : ℕ} → low (place_of origin frame.0) ≤ line → line < line_limit → IsSomeAnd m (λ (k : ℕ). k ≤ line)
      by None free {line} less small = let f : low (place_of origin frame.0) ≡ 64 = free in let s : line < 64 = small in absurd (omega (arith, f, less, s))
      by (Some at) up {line} less small = let u : at ≤ low (place_of origin frame.0) = up in omega (arith, u, less)
