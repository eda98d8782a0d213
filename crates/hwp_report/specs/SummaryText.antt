-- The text of a summary: eight lines of words.
use Rattle.std.specs.Prelude.{ℕ, Bool, true, false, List, [], ◌∷◌, codes, decimal, flat_map}
use Rattle.hwp_report_text.specs.hwp_geom.Words.{line}
use Rattle.hwp_report.specs.declared.counts.Summary.{Summary}

-- `stop yes` where the machine stopped, else `stop none`
abbrev pub stop_words : Bool → List (List ℕ)
stop_words true = codes "stop" ∷ codes "yes" ∷ []
stop_words false = codes "stop" ∷ codes "none" ∷ []

-- a word and a number
abbrev pub number_words : List ℕ → ℕ → List (List ℕ)
number_words word n = word ∷ decimal n ∷ []

-- the lines of the summary of the run that a seed gives
abbrev pub summary_lines : ℕ → Summary → List (List (List ℕ))
summary_lines seed s =
    (codes "hwp-sum" ∷ codes "1" ∷ [])
    ∷ number_words (codes "seed") seed
    ∷ number_words (codes "commands") s.commands
    ∷ number_words (codes "noframe") s.noframe
    ∷ stop_words s.stopped
    ∷ number_words (codes "count") s.count
    ∷ number_words (codes "entries") s.entries
    ∷ number_words (codes "signals") s.signals
    ∷ []

abbrev pub summary_text : ℕ → Summary → List ℕ
summary_text seed s = flat_map line (summary_lines seed s)
