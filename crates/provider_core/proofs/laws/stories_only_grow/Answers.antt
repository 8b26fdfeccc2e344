use Rattle.provider_core.proofs.StoryLaws as laws
use Rattle.provider_core.proofs.laws.stories_only_grow.Goals as goal

pub returns-clause-grow : goal.returns-clause-grow
returns-clause-grow c = laws.stories_only_grow
