pub mod Grammar
pub mod ByteRows
pub mod Inquiries
pub mod Text
pub mod Findings
pub mod Stops
pub mod Replies
