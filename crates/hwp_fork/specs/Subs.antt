-- The accesses of a copy in their order, by the words that were told of them: one word for each, of a load the word that it read. This
-- project's rule.
use Rattle.std.specs.Prelude.{ℕ, zero, suc, ◌+◌, ◌*◌, List, [], ◌∷◌, ◌++◌, length, slice_index, slice_index_or}
use Rattle.hwp_geom.specs.declared.VSlot.{VSlot}
use Rattle.hwp_geom.specs.Limits.{line_limit}
use Rattle.hwp_fork.specs.declared.cow.Sub.{Sub}
use Rattle.hwp_fork.specs.declared.cow.Sub.TheVariants.{Load, Store, Free, Switched}

-- so many lines, from one on. Each is loaded through v, and the word that was read is stored through w; the word of line k is number 2 k
-- of those told
abbrev pub copies : VSlot → VSlot → List ℕ → ℕ → ℕ → List Sub
copies v w told line zero = []
copies v w told line (suc n) = Load v line ∷ Store w line (slice_index told (2 * line)) ∷ copies v w told (line + 1) n

-- all lines, then the store that was asked for, through w, and last the freeing of v
abbrev pub subs : VSlot → VSlot → ℕ → ℕ → List ℕ → List Sub
subs v w line x told = copies v w told 0 line_limit ++ Store w line x ∷ Free v ∷ []

-- the access behind those that were told of; behind all, the copy has switched for ever
abbrev pub sub_after : VSlot → VSlot → ℕ → ℕ → List ℕ → Sub
sub_after v w line x told = slice_index_or (subs v w line x told) (length told) Switched
