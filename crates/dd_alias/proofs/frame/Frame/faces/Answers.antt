use Rattle.dd_alias.proofs.FrameLemmas.{array_inside, wider_meets}
use Rattle.dd_alias.proofs.frame.Frame.faces.Goals as goal

pub returns-then-not-meets : goal.returns-then-not-meets
returns-then-not-meets c = λ no e inside face.
    let e = c.if-not-meets.ensures.1 (wider_meets c.args.self.now.cols e.cols c.args.extent.now.cols inside.cols face.cols) in
    absurd (cc)

pub returns-then-not-meets-2 : goal.returns-then-not-meets-2
returns-then-not-meets-2 c = λ no e inside face.
    let e = c.if-not-meets-2.ensures.1 (wider_meets c.args.self.now.rows e.rows c.args.extent.now.rows inside.rows face.rows) in
    absurd (cc)

pub returns : goal.returns
returns c = λ no e inside face.
    let e = c.has_array.ensures.1 (array_inside c.args.self.now e c.args.extent.now inside face) in
    absurd (cc)
