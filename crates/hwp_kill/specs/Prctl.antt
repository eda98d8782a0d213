-- What prctl(2) does with its arguments. The numbers are those of Linux's include/uapi/linux/prctl.h.
use Rattle.std.specs.Prelude.{ℕ, Bool, ◌==◌, ◌&&◌, if◌then◌else◌, Option, Some, None, List, codes, slice_index}
use Rattle.hwp_kill.specs.declared.types.Policy.{Policy}
use Rattle.hwp_kill.specs.declared.types.Policy.TheVariants.{Late, Early, Default}
use Rattle.hwp_kill.specs.declared.types.Reply.{Reply}
use Rattle.hwp_kill.specs.declared.types.Reply.TheVariants.{Set, Is, Einval}

-- PR_MCE_KILL and PR_MCE_KILL_GET, the operations that set a thread's policy and ask for it
abbrev pub set_operation : ℕ
set_operation = 33

abbrev pub get_operation : ℕ
get_operation = 34

-- PR_MCE_KILL_CLEAR and PR_MCE_KILL_SET: back to the system default, or to the policy that the next argument names
abbrev pub clear_mode : ℕ
clear_mode = 0

abbrev pub set_mode : ℕ
set_mode = 1

-- the number of a policy: PR_MCE_KILL_LATE, PR_MCE_KILL_EARLY, PR_MCE_KILL_DEFAULT
abbrev pub policy_number : Policy → ℕ
policy_number Late = 0
policy_number Early = 1
policy_number Default = 2

-- the word of a policy in a report and in a trace
abbrev pub policy_word : Policy → List ℕ
policy_word Late = codes "late"
policy_word Early = codes "early"
policy_word Default = codes "default"

-- the five arguments are an operation, how, which policy, and two zeros
abbrev pub are : List ℕ → ℕ → ℕ → ℕ → Bool
are arguments operation how which =
    (slice_index arguments 0 == operation) && (slice_index arguments 1 == how) && (slice_index arguments 2 == which)
    && (slice_index arguments 3 == 0) && (slice_index arguments 4 == 0)

-- the policy that the arguments set, if they set one
abbrev pub policy_set : List ℕ → Option Policy
policy_set arguments =
    if are arguments set_operation clear_mode 0 then Some Default
    else if are arguments set_operation set_mode (policy_number Late) then Some Late
    else if are arguments set_operation set_mode (policy_number Early) then Some Early
    else if are arguments set_operation set_mode (policy_number Default) then Some Default
    else None

-- the arguments ask for the policy
abbrev pub asks_policy : List ℕ → Bool
asks_policy arguments = are arguments get_operation 0 0

-- what a call does that sets this policy, or sets none and is refused
abbrev pub setting : Option Policy → Reply
setting (Some policy) = Set policy
setting None = Einval

-- what prctl does for a thread with the policy `old`
abbrev pub reply : Policy → List ℕ → Reply
reply old arguments = if asks_policy arguments then Is old else setting (policy_set arguments)
