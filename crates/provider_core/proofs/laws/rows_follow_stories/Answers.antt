use Rattle.provider_core.proofs.StoryLaws as laws
use Rattle.provider_core.proofs.laws.rows_follow_stories.Goals as goal

pub returns : goal.returns
returns c = laws.rows_follow_stories
