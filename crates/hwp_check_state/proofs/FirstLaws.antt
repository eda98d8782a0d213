-- The first line of such things, kept as a list is gone through.
use Rattle.std.proofs.Common.{◌≡◌, ◌⊎◌, inl, inr, ℕ, ◌+◌, ◌<◌, ◌≤◌, min, Bool, true, false, not, List, [], ◌∷◌, ◌++◌, Option, Some, None, MatchBool, length, take, slice_index_or, refl, sym, ap, ◌∙◌, subst, arith}
use Rattle.std.specs.List.{All}
use Rattle.std.proofs.lemmas.Bool.{cases_lt}
use Rattle.std.proofs.lemmas.List.{take_more}
use Rattle.std.proofs.lemmas.List.Elements.{All-contains, All-push, Contains-append_left, Contains-push, Contains-push_cases}
use Rattle.hwp_check_state.specs.declared.sights.Sight.{Sight}
use Rattle.hwp_check_rules.specs.Firsts.{IsLeast, sooner_if}
use Rattle.hwp_check_rules.specs.hwp_kill.declared.Policy.TheVariants.{Late}
use Rattle.hwp_check_rules.specs.hwp_script_words.declared.Script.{Script}
use Rattle.hwp_check_rules.specs.hwp_report_text.declared.Report.{Report}
use Rattle.hwp_check_state.specs.Sights.{IsFirstOf, IsLineOf, IsRight, IsWrong}

module _ (So Such : Sight → Type 0) (not-both : (s : Sight) → So s → Such s → ⊥) where
  old-line : (front : List Sight) (x : Sight) (line : ℕ) → IsLineOf Such front line → IsLineOf Such (front ++ x ∷ []) line
  old-line front x line of = record { sight = of.sight; listed = Contains-append_left front (x ∷ []) of.sight of.listed; line_is = of.line_is; such = of.such }

  new-line : (front : List Sight) (x : Sight) → Such x → IsLineOf Such (front ++ x ∷ []) x.line
  new-line front x such = record { sight = x; listed = Contains-push front x; line_is = refl; such = such }

  which-line : (front : List Sight) (x : Sight) (line : ℕ) → IsLineOf Such (front ++ x ∷ []) line → IsLineOf Such front line ⊎ ((line ≡ x.line) × Such x)
  which-line front x line of = elim (Contains-push_cases front x of.sight of.listed) [
    | inl old ↦ inl (record { sight = of.sight; listed = old; line_is = of.line_is; such = of.such })
    | inr same ↦ inr (of.line_is ∙ ap (λ (s : Sight). s.line) (sym same), subst Such (sym same) of.such)
  ]

  none-such : (front : List Sight) (line : ℕ) → All So front → IsLineOf Such front line → ⊥
  none-such front line all of = not-both of.sight (All-contains So front of.sight all of.listed) of.such

  first-push : (front : List Sight) (x : Sight) (found : Option ℕ) (wrong : Bool) → MatchBool wrong (Such x) (So x) → IsFirstOf So Such front found
      → IsFirstOf So Such (front ++ x ∷ []) (sooner_if wrong found x.line)
  first-push front x None true such all = record {
    at = new-line front x such;
    first = λ other of. elim (which-line front x other of) [
      | inl old ↦ absurd (none-such front other all old)
      | inr same ↦ let is : other ≡ x.line = same.0 in omega (arith, is)
    ];
  }
  first-push front x None false so all = All-push So front x all so
  first-push front x (Some m) false so least = record {
    at = old-line front x m least.at;
    first = λ other of. elim (which-line front x other of) [
      | inl old ↦ least.first other old
      | inr same ↦ absurd (not-both x so same.1)
    ];
  }
  first-push front x (Some m) true such least = which (cases_lt m x.line)
    where
      after : (other : ℕ) → IsLineOf Such (front ++ x ∷ []) other → (m ≤ other) ⊎ (x.line ≤ other)
      after other of = elim (which-line front x other of) [
        | inl old ↦ inl (least.first other old)
        | inr same ↦ inr (let is : other ≡ x.line = same.0 in omega (arith, is))
      ]

      lowest : (other : ℕ) → (m ≤ other) ⊎ (x.line ≤ other) → min m x.line ≤ other
      lowest other (inl less) = omega (arith, less)
      lowest other (inr less) = omega (arith, less)

      which : (m < x.line) ⊎ (x.line ≤ m) → IsLeast (IsLineOf Such (front ++ x ∷ [])) (min m x.line)
      which (inl less) = record {
        at = let is : m ≡ min m x.line = omega (arith, less) in subst (IsLineOf Such (front ++ x ∷ [])) is (old-line front x m least.at);
        first = λ other of. lowest other (after other of);
      }
      which (inr less) = record {
        at = let is : x.line ≡ min m x.line = omega (arith, less) in subst (IsLineOf Such (front ++ x ∷ [])) is (new-line front x such);
        first = λ other of. lowest other (after other of);
      }

  -- one thing more
  pub first-more : (list : List Sight) (i : ℕ) (d : Sight) (found : Option ℕ) (wrong : Bool) → i < length list → MatchBool wrong (Such (slice_index_or list i d)) (So (slice_index_or list i d))
      → IsFirstOf So Such (take i list) found → IsFirstOf So Such (take (i + 1) list) (sooner_if wrong found (slice_index_or list i d).line)
  first-more list i d found wrong within decided first =
      subst (λ (l : List Sight). IsFirstOf So Such l (sooner_if wrong found (slice_index_or list i d).line)) (sym (take_more list i d within))
      (first-push (take i list) (slice_index_or list i d) found wrong decided first)

-- the test is that of the opposite
pub flipped : (So Such : Type 0) (right : Bool) → MatchBool right So Such → MatchBool (not right) Such So
flipped So Such true so = so
flipped So Such false such = such

-- a policy seen is not both right and wrong
pub not-both : (script : Script) (report : Report) (s : Sight) → IsRight script report s → IsWrong script report s → ⊥
not-both script report s right (inl no-policy) = no-policy right.0
not-both script report s right (inr no-count) = no-count right.1

-- what a read past the end gives
abbrev pub any_sight : Sight
any_sight = record { who = record { cpu = record { 0 = 0 }; seq = 0 }; seen = record { thread = record { 0 = 0 }; policy = Late; n = 0 }; line = 0 }
