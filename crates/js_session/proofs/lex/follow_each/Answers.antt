use Rattle.std.proofs.Common.{subst, get_or, drop, ◌+◌, ◌≤◌}
use Rattle.js_session.specs.declared.command.Command.TheVariants.{Next}
use Rattle.js_session.proofs.PlaceLemmas.{place_for, enough_on}
use Rattle.js_session.proofs.RunLemmas.{progress_start, progress_reserved, has_mark, progress_follow, command_at}
use Rattle.js_session.proofs.RunLemmas.{progress_end, drop_at}
use Rattle.js_session.proofs.lex.follow_each.Goals as goal

pub loop-command-init : goal.loop-command-init
loop-command-init g c =
    let s = c.args.session.now in (
      progress_reserved s.text s.source_type s.collects c.args.commands.now 0 s c.reserve_marks.new.self
          c.in_ok-reserve_marks.ensures.rest
          (progress_start s.text s.source_type s.collects c.args.commands.now s c.requires.begun),
      subst (λ n. n ≤ c.reserve_marks.new.self.spare) c.marks_needed.ensures c.in_ok-reserve_marks.ensures.ok,
    )

pub follow-requires-clause-mark : goal.follow-requires-clause-mark
follow-requires-clause-mark g c =
    let s = c.args.session.now in
    has_mark s.text s.source_type s.collects c.args.commands.now c.loop-command.command-index c.loop-command.session
    (get_or c.args.commands.now c.loop-command.command-index Next) c.loop-command.invariant.0
    (command_at c.args.commands.now c.loop-command.command-index Next c.loop-command-test.true).0 c.requires.marks

pub follow-requires-clause-place : goal.follow-requires-clause-place
follow-requires-clause-place g c =
    let command = get_or c.args.commands.now c.loop-command.command-index Next in
    place_for (drop c.loop-command.command-index c.args.commands.now)
    (drop (c.loop-command.command-index + 1) c.args.commands.now) command c.loop-command.session.spare
    (drop_at c.args.commands.now c.loop-command.command-index command c.loop-command-test.true
    (command_at c.args.commands.now c.loop-command.command-index Next c.loop-command-test.true).1)
    c.loop-command.invariant.1

pub loop-command-preserved : goal.loop-command-preserved
loop-command-preserved g c =
    let s = c.args.session.now in
    let at = command_at c.args.commands.now c.loop-command.command-index Next c.loop-command-test.true in
    let command = get_or c.args.commands.now c.loop-command.command-index Next in (
      progress_follow s.text s.source_type s.collects c.args.commands.now c.loop-command.command-index
          c.loop-command.session c.follow.new.session command c.loop-command.invariant.0 c.loop-command-test.true at.1
          (has_mark s.text s.source_type s.collects c.args.commands.now c.loop-command.command-index
          c.loop-command.session command c.loop-command.invariant.0 at.0 c.requires.marks)
          c.in_ok-follow.ensures,
      enough_on (drop c.loop-command.command-index c.args.commands.now)
          (drop (c.loop-command.command-index + 1) c.args.commands.now) command c.loop-command.session
          c.follow.new.session
          (drop_at c.args.commands.now c.loop-command.command-index command c.loop-command-test.true at.1)
          c.in_ok-follow.ensures c.loop-command.invariant.1,
    )

pub returns : goal.returns
returns g c =
    let s = c.args.session.now in
    progress_end s.text s.source_type s.collects c.args.commands.now c.loop-command.command-index
    c.loop-command.session c.requires.utf8 c.requires.short c.loop-command-test.false c.loop-command.invariant.0
