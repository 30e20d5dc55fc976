-- What a delivery of a script asks for, and what it leaves.
use Rattle.std.specs.Prelude.{◌≡◌, List, ◌++◌, ℕ, ◌≤◌, ℤ, take, drop}
use Rattle.session.specs.declared.Session.{Session}
use Rattle.delivery.specs.Deliver.{lend, deliver_of, lent_after}
use Rattle.script.specs.declared.Delivery.{Delivery}

-- what was read asks for no more cells than there are, and for no more bytes than a block can have
abbrev pub Ready : ℕ → Delivery → Type 0
Ready cells n = (n.lent ≤ cells) × (n.bytes ≤ 4096)

-- the session of the answer; a delivery sees its own bytes and the front of the grid that is lent to it, and the cells behind that stay
abbrev pub Delivers : Session → Delivery → List ℕ → List ℤ → List ℤ → Session → Type 0
Delivers s n block before after t =
    (t ≡ (deliver_of s n.number (take n.bytes block) (lend (take n.lent before))).session)
    × (after ≡ (lent_after s n.number (take n.bytes block) (lend (take n.lent before))).grid ++ drop n.lent before)
