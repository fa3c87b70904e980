use Rattle.std.proofs.Common.{◌≡◌, ◌<◌, length, slice_index, arith, rules}
use Rattle.hac_journal.proofs.FoundLemmas.{look-few, look-more, look-whole}
use Rattle.hac_journal.proofs.finding.look_at.Goals as goal

pub returns-then-bytes-lt5 : goal.returns-then-bytes-lt5
returns-then-bytes-lt5 c =
    let some : 0 < length c.args.bytes.now = search rules in
    let is_open : slice_index c.args.bytes.now 0 ≡ 1 = search rules in
    (omega arith, omega arith, λ more at few. look-few c.args.bytes.now more at some is_open few)

pub returns-then-bytes-size : goal.returns-then-bytes-size
returns-then-bytes-size c =
    let is_open : slice_index c.args.bytes.now 0 ≡ 1 = search rules in
    (omega arith, omega arith, λ more at short. look-more c.args.bytes.now more at c.read_u32-size.result is_open (omega arith) c.read_u32-size.ensures short)

pub returns : goal.returns
returns c =
    let is_open : slice_index c.args.bytes.now 0 ≡ 1 = search rules in
    (omega arith, λ more at. look-whole c.args.bytes.now more at c.read_u32-size.result is_open c.read_u32-size.ensures (omega arith))
