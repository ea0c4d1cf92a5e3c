use Rattle.dd_meaning.proofs.DependencyLemmas.{needed_depends}
use Rattle.dd_meaning.proofs.laws.needed_versions_are_dependencies.Goals as goal

pub returns : goal.returns
returns c = needed_depends
