use Rattle.scim_key.proofs.BaseLemmas.{authority_is_lawful, base_is_long}
use Rattle.scim_key.proofs.bases.Base.authority.Goals as goal

pub authority_in-requires : goal.authority_in-requires
authority_in-requires c = rw c.as_bytes.ensures.value (base_is_long _ c.self.invariant)

pub returns-clause-lawful : goal.returns-clause-lawful
returns-clause-lawful c = rw (c.authority_in.ensures, c.as_bytes.ensures.value) (authority_is_lawful _ c.self.invariant)
