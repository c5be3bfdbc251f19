use Rattle.std.proofs.Common.{sym, subst, arith}
use Rattle.js_edited_lines.specs.Edited.{Replaces}
use Rattle.js_edited_lines.proofs.EditLemmas.{replaced}
use Rattle.js_document_c.proofs.held.followed.Goals as goal

pub edit-requires : goal.edit-requires
edit-requires c =
    let m = c.requires in
    let text = c.args.text.now in
    let inserted = c.args.inserted.now in
    record {
      old = m.old;
      lines_are = m.lines_are;
      short = omega (arith, c.if-text.false);
      replaces =
          subst (Replaces m.old text c.args.start c.args.end) (sym c.in-Ok.ensures.1)
          (replaced m.old text inserted c.args.start c.args.end m.lines_are.are.utf8 c.utf8.inserted m.edit.ordered
          m.edit.starts m.edit.ends m.text_is);
    }
