-- Laws of a session's parts: of texts and what characters lead to, of turns, of lending, and of replies.
pub mod Leads
pub mod Lending
pub mod OtherFrames
pub mod LentCall
pub mod LineOutcome
pub mod Texts
pub mod LineEnds
