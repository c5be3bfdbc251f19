use Rattle.std.proofs.Common.{◌≡◌, List, [], ◌∷◌, ◌∙◌, None, ap, arith, sym}
use Rattle.std.proofs.lemmas.List.{nil_from_length}
use Rattle.std.specs.Iterator.{Yields}
use Rattle.std.specs.List.{splice}
use Rattle.std.specs.Vec.Iter.{into_iter_items, into_iter_steps}
use Rattle.std.specs.declared.vec.IntoIter.{IntoIter}
use Rattle.js_document.proofs.blocks.numbered.put_in.Goals as goal

-- what comes out of an iterator is what it had
drained : {A Z : Type 0} (s t u : IntoIter A Z) (xs : List A) → Yields (into_iter_steps {X = A} {Z = Z}) s xs t
    → into_iter_steps {X = A} {Z = Z} t None u → xs ≡ into_iter_items s
drained s t u [] same end =
    let len = end.0 in
    let items = t.rest.ok.0 in
    sym (nil_from_length (into_iter_items t) (omega (arith, len, items))) ∙ sym (ap into_iter_items same)
drained {A} {Z} s t u (x ∷ xs) more end =
    ap (λ l. x ∷ l) (drained {A = A} {Z = Z} more.0 t u xs more.2 end) ∙ sym more.1.0

pub returns-clause-ok : goal.returns-clause-ok
returns-clause-ok g c =
    let done = c.in_ok-splice.ensures.items in
    let run = done.3 in
    done.4 ∙ ap (splice c.args.blocks.now.items c.args.from c.args.to)
    (drained done.0 run.1.0 run.0 done.1 run.1.1 run.1.2 ∙ done.2.0)
