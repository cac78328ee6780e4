use Rattle.std.proofs.Common.{◌≡◌, slice_index_or, take, refl}
use Rattle.reference_sharing.specs.View.{plain_contents}
use Rattle.reference_sharing.proofs.Counts.{counted_before}
use Rattle.reference_sharing.proofs.groups.count_before.Goals as goal

pub returns : goal.returns
returns c =
    let item : slice_index_or c.args.groups.now c.args.index c.index-groups-index.result ≡ c.index-groups-index.result = rw (← c.index-groups-index.is) refl in
    counted_before (plain_contents c.args.contents.now) c.args.groups.now (take c.args.index c.args.groups.now) c.args.index c.count_alike.result c.index-groups-index.result c.group_bytes-bytes.result.now
    c.requires item (rw (← c.deref.ensures.value) c.group_bytes-bytes.ensures) refl c.count_alike.ensures
