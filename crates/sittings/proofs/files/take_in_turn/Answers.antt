-- Each file goes on behind those before it. Assumes nothing.
use Rattle.std.proofs.Common.{◌≤◌, ◌+◌, length, [], ◌++◌, arith}
use Rattle.sittings.specs.Files.{of_files}
use Rattle.sittings.proofs.Taken.{no_files_yet, files_more, some_left}
use Rattle.sittings.proofs.files.take_in_turn.Goals as goal

pub loop-name-init : goal.loop-name-init
loop-name-init g c past h = ([], no_files_yet past _ _ h)

pub returns-then-not-is_whole : goal.returns-then-not-is_whole
returns-then-not-is_whole g c past h =
    let l = c.loop-name in
    let so = l.invariant past h in
    let one = c.in_ok-is_whole.ensures (past ++ of_files so.0) so.1.lines.stands in
    let n : l.name-index + 1 ≤ length c.args.files.now = omega (arith, c.loop-name-test.true) in
    (so.0 ++ one.0, some_left past (l.name-index + 1) _ _ (so.0 ++ one.0) _ _ _ n c.if-not-is_whole.true (files_more past l.name-index 1 l.is_whole c.in_ok-is_whole.field-0 so.0 one.0 _ _ _ _ _ so.1 one.1))

pub loop-name-preserved : goal.loop-name-preserved
loop-name-preserved g c past h =
    let l = c.loop-name in
    let so = l.invariant past h in
    let one = c.in_ok-is_whole.ensures (past ++ of_files so.0) so.1.lines.stands in
    (so.0 ++ one.0, files_more past l.name-index 1 l.is_whole c.in_ok-is_whole.field-0 so.0 one.0 _ _ _ _ _ so.1 one.1)
