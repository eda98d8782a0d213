use Rattle.std.proofs.Common.{◌≡◌, ◌+◌, ◌-◌, ◌++◌, take, vec_len, vec_capacity}
use Rattle.hwp_claim.proofs.lines.ToldLines.append.Given as goal

-- the capacity stays, and what was told so far is there
abbrev pub invariant-loop-told : goal.invariant-loop-told
invariant-loop-told l = (l.self-inside.told.items ≡ l.fn.self.told ++ take l.told-index l.more)
    × (vec_capacity l.self-inside.told ≡ vec_capacity l.initial.self-inside.told) × (vec_len l.self-inside.told ≡ vec_len l.initial.self-inside.told + l.told-index)
    × (l.fn.self.spare ≡ vec_capacity l.initial.self-inside.told - vec_len l.initial.self-inside.told)
