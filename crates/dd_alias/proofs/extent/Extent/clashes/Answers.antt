use Rattle.std.proofs.Common.{refl}
use Rattle.dd_alias.proofs.ExtentLemmas.{clash_faces, face_overlaps}
use Rattle.dd_alias.proofs.extent.Extent.clashes.Goals as goal

pub returns-then-not-faces : goal.returns-then-not-faces
returns-then-not-faces c = (
  (λ e. absurd (cc)),
  (λ clash.
      let e = c.if-not-faces.ensures.1 (clash_faces c.requires.0 c.args.self.now c.args.other.now c.requires.1 c.requires.2 clash) in
      absurd (cc)),
)

pub returns-then-other : goal.returns-then-other
returns-then-other c = (
  (λ yes. (
    c.if-not-is_written_with.ensures.0 refl,
    face_overlaps c.requires.0 c.args.self.now c.args.other.now c.requires.1 c.requires.2 (c.args.self.now.whole c.if-self.true) (c.args.other.now.whole c.if-other.true) (c.if-not-faces.ensures.0 refl),
  )),
  (λ clash. refl),
)
