use Rattle.std.proofs.Common.{ℕ, ◌^◌, ◌<◌, List, length, subst, sym}
use Rattle.hac_model.proofs.StateLengthLemmas.{states-short}
use Rattle.hac_store.proofs.LiveLemmas.{filling-moments, flipped-made, flipped-stands, opening-moments}
use Rattle.hac_store.proofs.LiveLemmas.{part-head, place-head, place-starts, writing-moments}
use Rattle.hac_store.proofs.store.Store.make_live.Goals as goal

pub write_area-requires-clause-place : goal.write_area-requires-clause-place
write_area-requires-clause-place g c =
    let sound = c.root-live.ensures in
    place-starts c.args.self.now c.args.at sound.order c.requires.free (g.D.Disk.seen c.args.disk.now)
    c.requires.place

pub write_area-requires-clause-size : goal.write_area-requires-clause-size
write_area-requires-clause-size g c =
    subst (λ (payload : List ℕ). length payload < 2 ^ 32) (sym c.requires.text)
    (states-short c.args.self.now.setting.state c.root-live.ensures.valid)

pub close_and_fill-requires-clause-head : goal.close_and_fill-requires-clause-head
close_and_fill-requires-clause-head g c =
    let seen = g.D.Disk.seen in
    let sound = c.root-live.ensures in
    part-head (seen c.args.disk.now).contents (seen c.write_area.new.disk).contents _ _ c.write_area.ensures.elsewhere.in_part
    (place-head c.args.self.now c.args.at sound.order c.requires.free (g.D.Disk.seen c.args.disk.now)
    c.requires.place)

pub open_root-requires : goal.open_root-requires
open_root-requires g c =
    let seen = g.D.Disk.seen in
    let sound = c.root-live.ensures in
    part-head (seen c.write_area.new.disk).contents (seen c.close_and_fill.new.disk).contents _ _
    c.close_and_fill.ensures.elsewhere.in_part
    (part-head (seen c.args.disk.now).contents (seen c.write_area.new.disk).contents _ _ c.write_area.ensures.elsewhere.in_part
    (place-head c.args.self.now c.args.at sound.order c.requires.free (g.D.Disk.seen c.args.disk.now)
    c.requires.place))

pub returns-in_err-end-clause-any_moment : goal.returns-in_err-end-clause-any_moment
returns-in_err-end-clause-any_moment g c =
    let seen = g.D.Disk.seen in
    let old = seen c.args.disk.now in
    let sound = c.root-live.ensures in
    let elsewhere = rw c.requires.text at c.write_area.ensures.elsewhere in
    writing-moments c.args.self.now c.args.at sound.valid sound.order
    c.requires.free old (seen c.write_area.new.disk) (g.met.D.Disk.lawful c.args.disk.now) c.requires.place
    elsewhere

pub returns-in_err-close_and_fill-clause-any_moment : goal.returns-in_err-close_and_fill-clause-any_moment
returns-in_err-close_and_fill-clause-any_moment g c =
    let seen = g.D.Disk.seen in
    let old = seen c.args.disk.now in
    let sound = c.root-live.ensures in
    let elsewhere = rw c.requires.text at c.write_area.ensures.elsewhere in
    let written = rw c.requires.text at c.in_ok-end.ensures.written in
    let fills = rw sound.root at c.close_and_fill.ensures.any_moment in
    let filled = rw sound.root at c.close_and_fill.ensures.elsewhere in
    filling-moments c.args.self.now c.args.at sound.valid sound.order
    c.requires.free old (seen c.write_area.new.disk) (g.met.D.Disk.lawful c.args.disk.now) c.requires.place
    elsewhere
    (seen c.close_and_fill.new.disk) written c.in_ok-end.ensures.settled fills filled

pub returns-in_err-open_root-clause-any_moment : goal.returns-in_err-open_root-clause-any_moment
returns-in_err-open_root-clause-any_moment g c =
    let seen = g.D.Disk.seen in
    let old = seen c.args.disk.now in
    let sound = c.root-live.ensures in
    let elsewhere = rw c.requires.text at c.write_area.ensures.elsewhere in
    let written = rw c.requires.text at c.in_ok-end.ensures.written in
    let fills = rw sound.root at c.close_and_fill.ensures.any_moment in
    let filled = rw sound.root at c.close_and_fill.ensures.elsewhere in
    let fill = rw sound.root at c.in_ok-close_and_fill.ensures.filled in
    let opens = rw sound.root at c.open_root.ensures.any_moment c.args.at in
    let opened = rw sound.root at c.open_root.ensures.elsewhere in
    opening-moments c.args.self.now c.args.at sound.valid sound.order
    c.requires.free old (seen c.write_area.new.disk) (g.met.D.Disk.lawful c.args.disk.now) c.requires.place
    elsewhere
    (seen c.close_and_fill.new.disk) written c.in_ok-end.ensures.settled fills filled
    (seen c.open_root.new.disk) fill opens opened

pub returns-clause-any_moment : goal.returns-clause-any_moment
returns-clause-any_moment g c =
    let seen = g.D.Disk.seen in
    let old = seen c.args.disk.now in
    let sound = c.root-live.ensures in
    let elsewhere = rw c.requires.text at c.write_area.ensures.elsewhere in
    let written = rw c.requires.text at c.in_ok-end.ensures.written in
    let fills = rw sound.root at c.close_and_fill.ensures.any_moment in
    let filled = rw sound.root at c.close_and_fill.ensures.elsewhere in
    let fill = rw sound.root at c.in_ok-close_and_fill.ensures.filled in
    let opens = rw sound.root at c.open_root.ensures.any_moment c.args.at in
    let opened = rw sound.root at c.open_root.ensures.elsewhere in
    opening-moments c.args.self.now c.args.at sound.valid sound.order
    c.requires.free old (seen c.write_area.new.disk) (g.met.D.Disk.lawful c.args.disk.now) c.requires.place
    elsewhere
    (seen c.close_and_fill.new.disk) written c.in_ok-end.ensures.settled fills filled
    (seen c.open_root.new.disk) fill opens opened

pub returns-clause-made : goal.returns-clause-made
returns-clause-made g c =
    let seen = g.D.Disk.seen in
    let old = seen c.args.disk.now in
    let sound = c.root-live.ensures in
    let elsewhere = rw c.requires.text at c.write_area.ensures.elsewhere in
    let written = rw c.requires.text at c.in_ok-end.ensures.written in
    let fills = rw sound.root at c.close_and_fill.ensures.any_moment in
    let filled = rw sound.root at c.close_and_fill.ensures.elsewhere in
    let fill = rw sound.root at c.in_ok-close_and_fill.ensures.filled in
    let opens = rw sound.root at c.open_root.ensures.any_moment c.args.at in
    let opened = rw sound.root at c.open_root.ensures.elsewhere in
    let flips = rw sound.root at c.in_ok-open_root.ensures.opened c.args.at in
    flipped-made c.args.self.now c.args.at sound.valid sound.order
    c.requires.free old (seen c.write_area.new.disk) (g.met.D.Disk.lawful c.args.disk.now) c.requires.place
    elsewhere
    (seen c.close_and_fill.new.disk) written c.in_ok-end.ensures.settled fills filled
    (seen c.open_root.new.disk) fill opens opened flips
    (rw (c.in_ok-end.ensures.end, c.requires.text) at c.in_ok-end.ensures.gate)

pub returns-clause-stands : goal.returns-clause-stands
returns-clause-stands g c =
    let seen = g.D.Disk.seen in
    let old = seen c.args.disk.now in
    let sound = c.root-live.ensures in
    let elsewhere = rw c.requires.text at c.write_area.ensures.elsewhere in
    let written = rw c.requires.text at c.in_ok-end.ensures.written in
    let fills = rw sound.root at c.close_and_fill.ensures.any_moment in
    let filled = rw sound.root at c.close_and_fill.ensures.elsewhere in
    let fill = rw sound.root at c.in_ok-close_and_fill.ensures.filled in
    let opens = rw sound.root at c.open_root.ensures.any_moment c.args.at in
    let opened = rw sound.root at c.open_root.ensures.elsewhere in
    let flips = rw sound.root at c.in_ok-open_root.ensures.opened c.args.at in
    flipped-stands c.args.self.now c.args.at sound.valid sound.order
    c.requires.free old (seen c.write_area.new.disk) (g.met.D.Disk.lawful c.args.disk.now) c.requires.place
    elsewhere
    (seen c.close_and_fill.new.disk) written c.in_ok-end.ensures.settled fills filled
    (seen c.open_root.new.disk) fill opens opened flips
