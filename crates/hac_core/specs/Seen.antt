-- What callers see of a machine is what they see of a kept state: the state, and the events that it is ready for.
pub use Rattle.kept_state.specs.Seen.{Seen, seen_code}
