-- The first words of entries.
use Rattle.std.specs.Prelude.{ℕ, List, codes}
use Rattle.hwp_report_text.specs.hwp_page.declared.What.{What}
use Rattle.hwp_report_text.specs.hwp_page.declared.What.TheVariants as whats
use Rattle.hwp_report_words.specs.declared.verbs.Verb.{Verb}
use Rattle.hwp_report_words.specs.declared.verbs.Verb.TheVariants as verbs

-- the first word of an entry
abbrev pub verb_text : Verb → List ℕ
verb_text verbs.Load = codes "load"
verb_text verbs.Store = codes "store"
verb_text verbs.In = codes "in"
verb_text verbs.Map = codes "map"
verb_text verbs.Free = codes "free"
verb_text verbs.Drop = codes "drop"
verb_text verbs.Sync = codes "sync"
verb_text verbs.Out = codes "out"
verb_text verbs.Mce = codes "mce"
verb_text verbs.Fail = codes "fail"
verb_text verbs.Soft = codes "soft"

-- which first word an entry has
abbrev pub verb_of : What → Verb
verb_of (whats.Load slot line met) = verbs.Load
verb_of (whats.Store slot line met) = verbs.Store
verb_of whats.FaultIn = verbs.In
verb_of (whats.Map slot) = verbs.Map
verb_of (whats.Free slot) = verbs.Free
verb_of whats.Drop = verbs.Drop
verb_of whats.Sync = verbs.Sync
verb_of whats.Out = verbs.Out
verb_of (whats.Mce slot line mask) = verbs.Mce
verb_of (whats.Fail situation required seen signals) = verbs.Fail
verb_of whats.Soft = verbs.Soft
