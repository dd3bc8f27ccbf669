-- Laws by subject: which axis is cut (Axes), one entry (Entries), all of them (Cutting), the layout that is made (Filtering).
pub mod Axes
pub mod Entries
pub mod Cutting
pub mod Filtering
