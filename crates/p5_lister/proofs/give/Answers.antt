use borrow.Author.Rules.{rules}
use Rattle.p5_lister.proofs.Answers.{no_room, with_room}
use Rattle.p5_lister.proofs.give.Goals as goal

pub returns-then-out-len : goal.returns-then-out-len
returns-then-out-len c =
    no_room _ c.args.word.now.letters c.args.word.now.len (search rules) (search rules) _ _ (search rules) (search rules) (search rules)

pub returns : goal.returns
returns c =
    with_room _ c.args.word.now.letters c.args.word.now.len (search rules) (search rules) _ _ (search rules) (search rules) (search rules)
