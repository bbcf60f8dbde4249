use Rattle.std.proofs.Common.{◌≡◌, ◌<◌, get_or, length, rules}
use Rattle.clsm_script.proofs.Plains.{parted, says_put}
use Rattle.clsm_script.proofs.plain.parse_put.Goals as goal

pub returns : goal.returns
returns c =
    let inside : c.in_ok-end.end < length c.args.row.now = search rules in
    let there : get_or c.args.row.now c.in_ok-end.end 0 ≡ 32 = search rules in
    says_put _ _ _ _ _ _ (parted _ _ _ inside there) c.in_ok-key.ensures c.in_ok-word.ensures c.from-value.ensures
