-- The policy word of a thread: its policy, and how often it was set.
use Rattle.std.specs.Prelude.{ℕ, ◌==◌, List, [], ◌∷◌, if◌then◌else◌}
use Rattle.hwp_kill.specs.declared.types.Policy.{Policy}
use Rattle.hwp_kill.specs.declared.types.Policy.TheVariants as policies
use Rattle.hwp_words.specs.declared.policy.PolicyWord.{PolicyWord}
use Rattle.hwp_words.specs.Fields.{Field, field, packed}

abbrev pub policy_field : Field
policy_field = record { shift = 0; width = 2 }

abbrev pub settings_field : Field
settings_field = record { shift = 2; width = 62 }

abbrev pub policy_fields : List Field
policy_fields = policy_field ∷ settings_field ∷ []

abbrev pub policy_code : Policy → ℕ
policy_code policies.Late = 0
policy_code policies.Early = 1
policy_code policies.Default = 2

-- the policy of a code; 3, which no policy has, counts as the default
abbrev pub policy_coded : ℕ → Policy
policy_coded n = if n == 0 then policies.Late else if n == 1 then policies.Early else policies.Default

-- how often the policy was set
abbrev pub settings_of : ℕ → ℕ
settings_of w = field settings_field w

-- the policy
abbrev pub policy_of : ℕ → Policy
policy_of w = policy_coded (field policy_field w)

abbrev pub policy_word : PolicyWord → ℕ
policy_word x = packed policy_fields (policy_code x.policy ∷ x.settings ∷ [])

-- what a word says as a policy word
abbrev pub policy_reading : ℕ → PolicyWord
policy_reading w = record { policy = policy_of w; settings = settings_of w }
