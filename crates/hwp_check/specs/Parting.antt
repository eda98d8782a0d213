-- How an input is parted into a script and what stands behind it.
use Rattle.std.specs.Prelude.{◌≡◌, ◌≢◌, ℕ, ◌⊎◌, List, [], ◌∷◌, ◌++◌, codes, All}
use Rattle.std.specs.List.{flat_map}
use Rattle.hwp_report.specs.hwp_script_words.Words.{words_of}
use Rattle.hwp_report.specs.Cutting.{IsCut}

-- the only word of the line is `end`
abbrev pub IsEnd : List ℕ → Type 0
IsEnd line = words_of line ≡ codes "end" ∷ []

-- a line with its line feed
abbrev pub fed : List ℕ → List ℕ
fed line = line ++ 10 ∷ []

-- the input begins with whole lines, of which none ends a script, and this is left behind them
pub record GoesOn (input rest : List ℕ) : Type 0 where
  pub lines : List (List ℕ)
  pub feedless : All (λ line. All (λ b. b ≢ 10) line) lines
  pub none : All (λ line. IsEnd line → ⊥) lines
  pub same : input ≡ flat_map fed lines ++ rest

-- the script ends with the first line whose only word is `end`, and the report is all that is behind it
pub record EndsWith (input script report : List ℕ) : Type 0 where
  pub last : List ℕ
  pub ends : IsEnd last
  pub rest : List ℕ
  pub before : GoesOn input rest
  pub cut : IsCut rest last report
  pub same : input ≡ script ++ report

-- no such line has a line feed: all is script
pub record EndsNowhere (input script report : List ℕ) : Type 0 where
  pub rest : List ℕ
  pub before : GoesOn input rest
  pub feedless : All (λ b. b ≢ 10) rest
  pub all : script ≡ input
  pub nothing : report ≡ []

-- the input is this script, and this text behind it
abbrev pub IsParted : List ℕ → List ℕ → List ℕ → Type 0
IsParted input script report = EndsWith input script report ⊎ EndsNowhere input script report
