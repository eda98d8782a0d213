-- Counting from scratch comes to the same as counting by ages.
use Rattle.std.proofs.Common.{◌≡◌, ℕ, ◌+◌, ◌-◌, ◌≤◌, ◌==◌, nat_lt, Bool, true, false, cond, ◌&&◌, List, [], ◌∷◌, ◌++◌, map, reverse, count_by, if◌then◌else◌, refl, sym, ap, ◌∙◌, inl, inr, zero-add, eq-eqb, arith}
use Rattle.std.proofs.lemmas.List.{reverse-reverse}
use Rattle.std.proofs.lemmas.Grind.{reverse_onto}
use Rattle.std.proofs.lemmas.Bool.{cases_eq, lt-ltb, ne_eqb}
use Rattle.std.proofs.lemmas.List.Sums.{sum_by-cons}
use Rattle.std.proofs.lemmas.Bool.Decides.{nat_tests}
use Rattle.hwp_geom.specs.declared.Frame.{Frame}
use Rattle.hwp_cec.specs.Ages.{CecEvent, Note, Round, young, ages_after, live}
use Rattle.hwp_cec.specs.Counting.{is_note, after_round, notes_of, after_offlining, counted}
use Rattle.hwp_cec.proofs.Counts.{one, count-cons, count-push, count-map, count-same, count-none}
use Rattle.hwp_cec.proofs.AgeLaws.{ages-append}

-- the ages of the frame's notes among these events, the newest first
abbrev ages_of : ℕ → List CecEvent → List ℕ
ages_of f [] = []
ages_of f (Round ∷ older) = map (λ age. age + 1) (ages_of f older)
ages_of f (Note noted ∷ older) = if noted.0 == f then 0 ∷ ages_of f older else ages_of f older

-- one note more
notes-note : (w f : ℕ) (g : Frame) (older : List CecEvent) → notes_of w f (Note g ∷ older) ≡ one (g.0 == f) + notes_of w f older
notes-note w f g older = sum_by-cons (λ event. one (is_note f event)) (Note g) (after_round w older)

young-noted : (w f : ℕ) (ages : List ℕ) (b : Bool) → 1 ≤ w → young w (if b then 0 ∷ ages else ages) ≡ one b + young w ages
young-noted w f ages true some =
    count-cons (λ age. nat_lt age w) 0 ages ∙ ap (λ (b : Bool). one b + young w ages) (lt-ltb 0 w (omega (arith, some)))
young-noted w f ages false some = omega arith

young-older : (w : ℕ) (ages : List ℕ) → young w (map (λ age. age + 1) ages) ≡ young (w - 1) ages
young-older w ages =
    count-map (λ age. nat_lt age w) (λ age. age + 1) ages
    ∙ count-same (λ age. nat_lt (age + 1) w) (λ age. nat_lt age (w - 1)) ages (λ age. grind (arith, nat_tests))

none_young : (ages : List ℕ) → young 0 ages ≡ 0
none_young ages = count-none (λ age. nat_lt age 0) ages (λ age. grind (arith, nat_tests))

-- the notes after the window-th last round are those that are younger than the window
notes-young : (w f : ℕ) (events : List CecEvent) → 1 ≤ w → notes_of w f events ≡ young w (ages_of f events)
notes-young w f [] some = refl
notes-young w f (Note g ∷ older) some =
    notes-note w f g older
    ∙ (ap (λ (n : ℕ). one (g.0 == f) + n) (notes-young w f older some) ∙ sym (young-noted w f (ages_of f older) (g.0 == f) some))
notes-young w f (Round ∷ older) some =
    elim (cases_eq w 1) [
      | inl last ↦
          ap (λ (b : Bool). count_by (is_note f) (cond b [] (Round ∷ after_round (w - 1) older))) (eq-eqb w 1 last)
          ∙ sym (young-older w (ages_of f older) ∙ (ap (λ (v : ℕ). young v (ages_of f older)) (omega (arith, last)) ∙ none_young (ages_of f older)))
      | inr not_last ↦
          ap (λ (b : Bool). count_by (is_note f) (cond b [] (Round ∷ after_round (w - 1) older))) (ne_eqb w 1 not_last)
          ∙ (sum_by-cons (λ event. one (is_note f event)) Round (after_round (w - 1) older)
          ∙ (zero-add (notes_of (w - 1) f older)
          ∙ (notes-young (w - 1) f older (omega (arith, some, not_last)) ∙ sym (young-older w (ages_of f older)))))
    ]

-- with a note that isn't of the frame, or isn't offlining, its age is added; with an offlining note no age is left
noted : (p : ℕ → Bool) (t f y : ℕ) (g : Frame) (ages : List ℕ) (since : List CecEvent) (b : Bool) → (g.0 == f) ≡ b
    → ((q : ℕ → Bool) → count_by q ages ≡ count_by q (ages_of f since))
    → count_by p (if b then (if y + 1 == t then [] else ages ++ 0 ∷ []) else ages)
    ≡ count_by p (ages_of f (if b && (one b + y == t) then [] else Note g ∷ since))
noted p t f y g ages since false is same =
    same p ∙ sym (ap (λ (b : Bool). count_by p (if b then 0 ∷ ages_of f since else ages_of f since)) is)
noted p t f y g ages since true is same =
    ap (λ (n : ℕ). count_by p (if n == t then [] else ages ++ 0 ∷ [])) (omega arith) ∙ at (1 + y == t)
  where
    at : (c : Bool) → count_by p (if c then [] else ages ++ 0 ∷ []) ≡ count_by p (ages_of f (if c then [] else Note g ∷ since))
    at true = refl
    at false =
        count-push p ages 0
        ∙ (ap (λ (n : ℕ). n + one (p 0)) (same p)
        ∙ (omega arith
        ∙ (sym (count-cons p 0 (ages_of f since))
        ∙ sym (ap (λ (b : Bool). count_by p (if b then 0 ∷ ages_of f since else ages_of f since)) is))))

-- the ages that are kept event by event are those of the notes after the last offlining one
ages-scratch : (t w f : ℕ) (newest_first : List CecEvent) → 1 ≤ w → (p : ℕ → Bool)
    → count_by p (ages_after t w f [] (reverse newest_first)) ≡ count_by p (ages_of f (after_offlining t w f newest_first))
ages-scratch t w f [] some p = refl
ages-scratch t w f (Round ∷ older) some p =
    let before : List ℕ = ages_after t w f [] (reverse older) in
    ap (λ (events : List CecEvent). count_by p (ages_after t w f [] events)) (reverse_onto older Round [])
    ∙ (ap (count_by p) (ages-append t w f [] (reverse older) (Round ∷ []))
    ∙ (count-map p (λ age. age + 1) before
    ∙ (ages-scratch t w f older some (λ age. p (age + 1))
    ∙ sym (count-map p (λ age. age + 1) (ages_of f (after_offlining t w f older))))))
ages-scratch t w f (Note g ∷ older) some p =
    let before : List ℕ = ages_after t w f [] (reverse older) in
    let since : List CecEvent = after_offlining t w f older in
    let same : (q : ℕ → Bool) → count_by q before ≡ count_by q (ages_of f since) = λ q. ages-scratch t w f older some q in
    let notes : notes_of w f (Note g ∷ since) ≡ one (g.0 == f) + young w before =
    notes-note w f g since
    ∙ ap (λ (n : ℕ). one (g.0 == f) + n) (notes-young w f since some ∙ sym (same (λ age. nat_lt age w))) in
    ap (λ (events : List CecEvent). count_by p (ages_after t w f [] events)) (reverse_onto older (Note g) [])
    ∙ (ap (count_by p) (ages-append t w f [] (reverse older) (Note g ∷ []))
    ∙ (noted p t f (young w before) g before since (g.0 == f) refl same
    ∙ sym (ap (λ (n : ℕ). count_by p (ages_of f (if (g.0 == f) && (n == t) then [] else Note g ∷ since))) notes)))

-- counting from scratch comes to the same as counting by ages
pub counted-live : (t w : ℕ) (events : List CecEvent) (frame : Frame) → 1 ≤ w → counted t w events frame ≡ live t w events frame.0
counted-live t w events frame some =
    let since : List CecEvent = after_offlining t w frame.0 (reverse events) in
    let same : young w (ages_after t w frame.0 [] (reverse (reverse events))) ≡ young w (ages_of frame.0 since) =
    ages-scratch t w frame.0 (reverse events) some (λ age. nat_lt age w) in
    let whole : young w (ages_after t w frame.0 [] (reverse (reverse events))) ≡ young w (ages_after t w frame.0 [] events) =
    ap (λ (l : List CecEvent). young w (ages_after t w frame.0 [] l)) (reverse-reverse events) in
    let first : notes_of w frame.0 (Note frame ∷ since) ≡ one (frame.0 == frame.0) + notes_of w frame.0 since = notes-note w frame.0 frame since in
    let one_here : one (frame.0 == frame.0) ≡ 1 = ap one (eq-eqb frame.0 frame.0 refl) in
    let rest : notes_of w frame.0 since ≡ young w (ages_of frame.0 since) = notes-young w frame.0 since some in
    omega (arith, same, whole, first, one_here, rest)
