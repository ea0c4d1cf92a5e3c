use Rattle.dd_alias.proofs.LineLemmas.{begins_diagonal}
use Rattle.dd_alias.proofs.band.diagonal.Goals as goal

pub returns : goal.returns
returns c =
    begins_diagonal c.args.pattern.now c.args.cols.now _ c.place_of-place.result (record {
      pattern = c.requires.pattern;
      part = λ all. let e = c.if-is_whole.ensures.1 all in absurd (cc);
      within = c.requires.cols;
      at = c.place_of-place.ensures.at;
      only = c.place_of-place.ensures.only;
      first = c.number_at.ensures;
      stride = c.slope.ensures;
      rises = c.are_alike.ensures;
    })
