-- The rule of policies seen, and the first line that breaks it.
use Rattle.std.proofs.Common.{◌≡◌, ◌⊎◌, inl, inr, ℕ, ◌<◌, ◌≤◌, min, List, Option, Some, None, MatchOption, refl, sym, ap, ◌∙◌, subst, arith}
use Rattle.std.specs.List.{All, Contains}
use Rattle.std.specs.List.Sorted.{IsPermutation}
use Rattle.std.proofs.lemmas.Bool.{cases_lt}
use Rattle.std.proofs.lemmas.List.Elements.{All-contains}
use Rattle.std.proofs.lemmas.List.Sorted.{Contains-permutation, IsPermutation-sym}
use Rattle.hwp_check_rules.specs.hwp_geom.declared.Who.{Who}
use Rattle.hwp_check_rules.specs.hwp_kill.declared.Seen.{Seen}
use Rattle.hwp_check_rules.specs.hwp_page.declared.At.{At}
use Rattle.hwp_check_rules.specs.hwp_page.declared.Entry.{Entry}
use Rattle.hwp_check_rules.specs.hwp_script_words.declared.Script.{Script}
use Rattle.hwp_check_rules.specs.hwp_report_text.declared.Report.{Report}
use Rattle.hwp_check_rules.specs.hwp_law.Places.{entry_at}
use Rattle.hwp_check_rules.specs.hwp_law.SeenPolicies.{IsOwnCount, seen_in}
use Rattle.hwp_check_state.specs.declared.sights.Sight.{Sight}
use Rattle.hwp_check_rules.specs.Faults.{HasFallen, IsSeenFault}
use Rattle.hwp_check_rules.specs.Firsts.{soonest, IsFirstFault}
use Rattle.hwp_check_rules.specs.Rules.{SeenFit}
use Rattle.hwp_check_state.specs.Sights.{IsBelow, IsFirstOf, IsLineOf, IsNotBelow, IsRight, IsWrong, sights}
use Rattle.hwp_check_rules.specs.Standing.{seen_line}
use Rattle.hwp_check_state.proofs.FirstLaws.{not-both}
use Rattle.hwp_check_state.proofs.SightLaws.{IsSight, from-place, has-sight, sight-has, to-place}

abbrev pub sight_of : Entry → Seen → ℕ → Sight
sight_of e seen line = record { who = e.who; seen = seen; line = line }

module _ (script : Script) (report : Report) (sorted : List Sight) (moved : IsPermutation (sights report) sorted) where
  abbrev pub list : List Sight
  list = sights report

  here : (s : Sight) → IsSight report s → Contains sorted s
  here s is = Contains-permutation list sorted s moved (has-sight report s is)

  has : (s : Sight) → Contains sorted s → IsSight report s
  has s c = sight-has report s (Contains-permutation sorted list s (IsPermutation-sym list sorted moved) c)

  -- a policy that an entry lists, as a sight
  listed-at : (at : At) (e : Entry) (seen : Seen) → entry_at report.pages at ≡ Some e → Contains (seen_in e.what) seen → (line : ℕ) × IsSight report (record { who = e.who; seen = seen; line = line })
  listed-at at e seen there listed = let k = to-place (seen_in e.what) seen listed in
      (seen_line report at k.0, record { at = at; entry = e; number = k.0; there = there; listed = k.1; who_is = refl; line_is = refl })

  -- each fault is one of a sight
  wrong-fault : (line : ℕ) → IsLineOf (IsWrong script report) list line → IsSeenFault script report line
  wrong-fault line of = let is = sight-has report of.sight of.listed in record {
    at = is.at;
    entry = is.entry;
    number = is.number;
    seen = of.sight.seen;
    there = is.there;
    listed = is.listed;
    line_is = of.line_is ∙ is.line_is;
    wrong = elim of.such [
      | inl no-policy ↦ inl no-policy
      | inr no-count ↦ inr (inl (λ fits. no-count (subst (λ (who : Who). IsOwnCount script report who of.sight.seen) (sym is.who_is) fits)))
    ];
  }

  below-fault : (line : ℕ) → IsLineOf (IsBelow sorted) sorted line → IsSeenFault script report line
  below-fault line of = let is = has of.sight of.listed in let b = has of.such.before of.such.listed in record {
    at = is.at;
    entry = is.entry;
    number = is.number;
    seen = of.sight.seen;
    there = is.there;
    listed = is.listed;
    line_is = of.line_is ∙ is.line_is;
    wrong = inr (inr (record {
      earlier = b.at;
      other = b.entry;
      before = of.such.before.seen;
      there = b.there;
      listed = from-place (seen_in b.entry.what) b.number of.such.before.seen b.listed;
      same_cpu = ap (λ (w : Who). w.cpu) (sym b.who_is) ∙ of.such.same_cpu ∙ ap (λ (w : Who). w.cpu) is.who_is;
      rises = subst (λ (w : Who). b.entry.who.seq < w.seq) is.who_is (subst (λ (w : Who). w.seq < of.sight.who.seq) b.who_is of.such.rises);
      same_thread = of.such.same_thread;
      falls = of.such.falls;
    }));
  }

  fault-line : (line : ℕ) → IsSeenFault script report line → IsLineOf (IsWrong script report) list line ⊎ IsLineOf (IsBelow sorted) sorted line
  fault-line line fault = elim fault.wrong [
    | inl no-policy ↦ inl (record { sight = sight_of fault.entry fault.seen line; listed = has-sight report (sight_of fault.entry fault.seen line) is; line_is = refl; such = inl no-policy })
    | inr (inl no-count) ↦ inl (record { sight = sight_of fault.entry fault.seen line; listed = has-sight report (sight_of fault.entry fault.seen line) is; line_is = refl; such = inr no-count })
    | inr (inr fallen) ↦ inr (record { sight = sight_of fault.entry fault.seen line; listed = here (sight_of fault.entry fault.seen line) is; line_is = refl; such = below fallen })
  ]
    where
      is : IsSight report (sight_of fault.entry fault.seen line)
      is = record { at = fault.at; entry = fault.entry; number = fault.number; there = fault.there; listed = fault.listed; who_is = refl; line_is = fault.line_is }

      below : HasFallen report fault.entry.who fault.seen → IsBelow sorted (sight_of fault.entry fault.seen line)
      below f = let b = listed-at f.earlier f.other f.before f.there f.listed in record {
        before = record { who = f.other.who; seen = f.before; line = b.0 };
        listed = here (record { who = f.other.who; seen = f.before; line = b.0 }) b.1;
        same_cpu = f.same_cpu;
        same_thread = f.same_thread;
        rises = f.rises;
        falls = f.falls;
      }

  -- where no line was found the rule holds
  fits : All (IsRight script report) list → All (IsNotBelow sorted) sorted → SeenFit script report
  fits right above = record {
    right = λ at e seen there listed. let s = listed-at at e seen there listed in All-contains (IsRight script report) list (record { who = e.who; seen = seen; line = s.0 }) right (has-sight report (record { who = e.who; seen = seen; line = s.0 }) s.1);
    falls_never = λ at later e f seen again there other listed also same_cpu rises same_thread.
        never at later e f seen again there other listed also same_cpu rises same_thread (cases_lt again.n seen.n);
  }
    where
      never : (at later : At) (e f : Entry) (seen again : Seen) → entry_at report.pages at ≡ Some e → entry_at report.pages later ≡ Some f → Contains (seen_in e.what) seen → Contains (seen_in f.what) again
          → e.who.cpu ≡ f.who.cpu → e.who.seq < f.who.seq → seen.thread ≡ again.thread → (again.n < seen.n) ⊎ (seen.n ≤ again.n) → seen.n ≤ again.n
      never at later e f seen again there other listed also same_cpu rises same_thread (inr up) = up
      never at later e f seen again there other listed also same_cpu rises same_thread (inl falls) =
          let s = listed-at at e seen there listed in let t = listed-at later f again other also in
          absurd (All-contains (IsNotBelow sorted) sorted (record { who = f.who; seen = again; line = t.0 }) above (here (record { who = f.who; seen = again; line = t.0 }) t.1) (record {
            before = record { who = e.who; seen = seen; line = s.0 };
            listed = here (record { who = e.who; seen = seen; line = s.0 }) s.1;
            same_cpu = same_cpu;
            same_thread = same_thread;
            rises = rises;
            falls = falls;
          }))

  -- a fault breaks the rule
  breaks : (line : ℕ) → IsSeenFault script report line → SeenFit script report → ⊥
  breaks line fault fit = let right = fit.right fault.at fault.entry fault.seen fault.there (from-place (seen_in fault.entry.what) fault.number fault.seen fault.listed) in
      elim fault.wrong [
        | inl no-policy ↦ no-policy right.0
        | inr (inl no-count) ↦ no-count right.1
        | inr (inr f) ↦
            let up : f.before.n ≤ fault.seen.n = fit.falls_never f.earlier fault.at f.other fault.entry f.before fault.seen f.there fault.there f.listed (from-place (seen_in fault.entry.what) fault.number fault.seen fault.listed)
            f.same_cpu f.rises f.same_thread in
            let down : fault.seen.n < f.before.n = f.falls in
            omega (arith, up, down)
      ]

  no-wrong : (line : ℕ) → All (IsRight script report) list → IsLineOf (IsWrong script report) list line → ⊥
  no-wrong line right of = not-both script report of.sight (All-contains (IsRight script report) list of.sight right of.listed) of.such

  no-below : (line : ℕ) → All (IsNotBelow sorted) sorted → IsLineOf (IsBelow sorted) sorted line → ⊥
  no-below line above of = All-contains (IsNotBelow sorted) sorted of.sight above of.listed of.such

  broken-by : (line : ℕ) → IsSeenFault script report line → ((other : ℕ) → IsSeenFault script report other → line ≤ other) → IsFirstFault (SeenFit script report) (IsSeenFault script report) line
  broken-by line fault first = record { broken = breaks line fault; at = fault; first = first }

  pub seen-is : (wrong below : Option ℕ) → IsFirstOf (IsRight script report) (IsWrong script report) list wrong → IsFirstOf (IsNotBelow sorted) (IsBelow sorted) sorted below
      → MatchOption (soonest wrong below) (SeenFit script report) (IsFirstFault (SeenFit script report) (IsSeenFault script report))
  seen-is None None right above = fits right above
  seen-is (Some line) None least above = broken-by line (wrong-fault line least.at) (λ other fault. elim (fault-line other fault) [
    | inl of ↦ least.first other of
    | inr of ↦ absurd (no-below other above of)
  ])
  seen-is None (Some line) right least = broken-by line (below-fault line least.at) (λ other fault. elim (fault-line other fault) [
    | inl of ↦ absurd (no-wrong other right of)
    | inr of ↦ least.first other of
  ])
  seen-is (Some first) (Some second) wrongs belows = broken-by (min first second) (which (cases_lt first second)) (λ other fault. elim (fault-line other fault) [
    | inl of ↦ let up : first ≤ other = wrongs.first other of in omega (arith, up)
    | inr of ↦ let up : second ≤ other = belows.first other of in omega (arith, up)
  ])
    where
      which : (first < second) ⊎ (second ≤ first) → IsSeenFault script report (min first second)
      which (inl less) = let is : first ≡ min first second = omega (arith, less) in subst (IsSeenFault script report) is (wrong-fault first wrongs.at)
      which (inr less) = let is : second ≡ min first second = omega (arith, less) in subst (IsSeenFault script report) is (below-fault second belows.at)
