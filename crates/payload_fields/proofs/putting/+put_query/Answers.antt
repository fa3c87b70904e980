use Rattle.payload_fields.proofs.PutLemmas.{term-token}
use Rattle.payload_fields.proofs.putting.+put_query.Goals as goal

pub returns-in-Term : goal.returns-in-Term
returns-in-Term t c = rw (← c.query.view_is, c.in-Term.is, term-token c.args.version c.in-Term.term) c.put_term.ensures
